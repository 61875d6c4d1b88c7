pub mod Answered
pub mod Reads
pub mod PartRows
pub mod Parts
