pub mod Made
pub mod Making
pub mod Laws
pub mod Examples
