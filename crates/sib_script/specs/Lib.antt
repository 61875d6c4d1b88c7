pub mod Script
pub mod Reading
pub mod Laws
pub mod Standing
pub mod Steps
pub mod Examples
