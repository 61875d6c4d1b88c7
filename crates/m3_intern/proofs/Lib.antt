pub mod TermLists
pub mod Positions
pub mod Drafts
