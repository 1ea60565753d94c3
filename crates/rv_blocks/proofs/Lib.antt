pub mod Edits
pub mod Flats
pub mod Order
pub mod Places
pub mod Runs
pub mod Turning
