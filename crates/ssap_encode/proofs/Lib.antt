pub mod Lists
pub mod Escapes
pub mod GatherLemmas
