pub mod Lookups
pub mod Points
