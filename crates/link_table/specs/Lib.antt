pub mod Links
pub mod Limits
pub mod Index
pub mod Table
