pub mod Sums
pub mod Unions
