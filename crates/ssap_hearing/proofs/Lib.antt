pub mod Letting
pub mod LetOnce
pub mod Following
