pub mod Columns
pub mod Fetching
pub mod Few
pub mod Gathering
pub mod Goings
pub mod Sorted
