pub mod Scoped
pub mod Drafting
pub mod Reading
pub mod Drafted
