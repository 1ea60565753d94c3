pub mod Leading
pub mod Onward
pub mod Parting
