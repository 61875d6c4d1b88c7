pub mod Bindings
pub mod SameBindings
pub mod Lookups
mod Agreeing
pub mod Naming
mod Forms
mod Within
pub mod Gathered
mod Merges
pub mod Grouping
mod Removed
pub mod Limits
pub mod ListMembers
pub mod ExtendedSolutions
pub mod ListedPatterns
pub mod ListedSolutions
pub mod ListedWidths
pub mod ListedAnswers
pub mod StandForLaws
pub mod MembersDecide
mod ConstantsAppended
