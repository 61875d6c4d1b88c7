pub mod Commands
pub mod Ending
pub mod Means
pub mod Laws
pub mod KpRun
