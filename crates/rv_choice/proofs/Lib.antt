pub mod Choices
pub mod Suited
pub mod OfMembers
