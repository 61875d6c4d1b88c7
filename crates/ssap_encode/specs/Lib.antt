pub mod Sending
pub mod Gathering
pub mod GatheringLaws
pub mod BoundedLaws
