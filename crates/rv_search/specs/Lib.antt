pub mod Named
pub mod Searching
