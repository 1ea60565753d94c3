pub mod Judging
pub mod Queues
pub mod Replaying
