pub mod Decoding
pub mod Standing
pub mod Unfinished
