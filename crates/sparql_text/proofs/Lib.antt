pub mod Words
pub mod ByteRuns
pub mod StringPieces
pub mod TokenReadings
pub mod TokenBegins
pub mod Gaps
pub mod Meanings
pub mod TakenInGroups
pub mod TakenInConditions
pub mod Taken
pub mod Following
pub mod FollowingGroups
pub mod Completions
pub mod TokensTaken
pub mod Tallied
pub mod NamesGrowing
pub mod DeclarationsGrowing
pub mod StringValues
pub mod PastGrowing
pub mod DistinctForms
pub mod TokensJudged
pub mod Unescaping
pub mod LexemesStandForOne
pub mod TextsTested
pub mod FirstTokensFound
pub mod GapsFound
pub mod TokensOnce
pub mod TextsLexed
mod WithinLimits
mod Weights
mod CountsKept
mod NamesKept
mod TalliedReadings
mod TalliedConditions
mod TalliedTriples
mod TalliedGroups
mod KnownVariables
mod TalliedQueries
pub mod SaidValid
