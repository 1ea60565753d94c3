pub mod Core
pub mod Db
pub mod Doing
pub mod Obeying
pub mod Pieces
pub mod Storing
pub mod Short
