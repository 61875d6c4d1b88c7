pub mod Searches
pub mod Ranges
pub mod Nets
pub mod Closing
pub mod Merging
pub mod Rows
