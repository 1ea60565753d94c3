pub mod Accesses
pub mod Given
pub mod Stepping
pub mod Opened
pub mod Ahead
pub mod Memory
