pub mod Replies
pub mod Reading
pub mod Trial
pub mod Playing
pub mod Laws
pub mod Examples
