pub mod Lists
pub mod TextFronts
pub mod TextHad
pub mod TextLaws
pub mod PlainRuns
pub mod Starts
