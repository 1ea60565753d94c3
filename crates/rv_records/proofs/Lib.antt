pub mod Searches
pub mod Joins
pub mod Keeping
