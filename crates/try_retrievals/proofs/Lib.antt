pub mod Asks
pub mod Drives
pub mod Plans
pub mod Selects
