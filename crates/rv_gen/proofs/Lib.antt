pub mod Goings
pub mod Calls
mod Counts
pub mod Runs
