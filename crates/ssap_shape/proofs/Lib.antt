pub mod Plain
mod Sent
pub mod Found
pub mod Onces
mod ExampleShapes
pub mod Somes
pub mod SoundShapes
pub mod RepliesTold
pub mod OneTold
pub mod SpelledTemplates
mod ClearRequests
pub mod AskedUnderstood
pub mod AskedSayable
pub mod AskedWords
pub mod ParsedNumbers
pub mod MissingFields
pub mod UntoldIndications
pub mod UntoldConfirms
