pub mod Histories
pub mod Sights
pub mod Rule
pub mod Steps
pub mod Causes
pub mod Examples
