pub mod Report
pub mod Ending
pub mod Laws
pub mod Giving
pub mod Feeding
pub mod Turn
pub mod Examples
