pub mod Ways
pub mod Raced
pub mod Given
pub mod Rulings
pub mod Runs
pub mod Effort
pub mod Opened
