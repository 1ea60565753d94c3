pub mod Guarding
pub mod Shares
