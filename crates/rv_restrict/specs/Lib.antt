pub mod Bind
pub mod Branches
pub mod Groups
pub mod Limits
pub mod Parts
pub mod Ranges
pub mod Truth
