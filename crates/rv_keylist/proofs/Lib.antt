pub mod Bits
pub mod Orders
pub mod Narrow
pub mod Searches
pub mod Onces
pub mod Words
mod Zeros
pub mod Sets
