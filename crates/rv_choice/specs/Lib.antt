pub mod Asked
pub mod Choice
pub mod Leading
pub mod Members
