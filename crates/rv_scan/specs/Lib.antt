pub mod Alongs
pub mod Due
pub mod Places
pub mod Told
pub mod Reads
pub mod Fronts
