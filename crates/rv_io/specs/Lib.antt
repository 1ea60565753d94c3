pub mod Causes
pub mod Fakes
pub mod Lines
pub mod Pieces
