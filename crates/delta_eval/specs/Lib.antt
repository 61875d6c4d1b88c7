pub mod Changed
pub mod Wanted
pub mod Standing
pub mod Laws
