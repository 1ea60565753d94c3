pub mod Auditing
pub mod Calls
pub mod Following
pub mod Marks
pub mod Places
pub mod Runs
