pub mod Causes
pub mod Memory
pub mod Gathered
pub mod Limits
pub mod Connections
pub mod Waiting
pub mod Accepting
