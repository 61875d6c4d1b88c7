pub mod Answers
pub mod Bgp
pub mod Examples
pub mod Meaning
pub mod Reading
pub mod Rows
pub mod Scan
pub mod Search
