pub mod PlainTexts
pub mod SpellingLengths
pub mod MessageLengths
pub mod MadeEntries
