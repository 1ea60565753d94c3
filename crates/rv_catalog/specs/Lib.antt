pub mod Answers
pub mod Columns
pub mod Fits
pub mod Kept
pub mod Kinds
pub mod Limits
pub mod Resolve
pub mod Schema
