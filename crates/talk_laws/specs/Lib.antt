pub mod Texts
pub mod Truth
