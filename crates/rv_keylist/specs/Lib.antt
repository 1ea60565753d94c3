pub mod Listed
pub mod Marks
pub mod Whole
pub mod Keys
pub mod Bits
pub mod Rows
