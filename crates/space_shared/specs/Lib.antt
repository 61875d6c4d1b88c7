pub mod Exchanges
pub mod Input
pub mod Output
pub mod Calling
pub mod Listening
pub mod Reads
pub mod Pumping
