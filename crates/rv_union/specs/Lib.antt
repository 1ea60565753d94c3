pub mod Unioned
pub mod Given
pub mod Rulings
pub mod Runs
pub mod Effort
pub mod Leaves
pub mod Opened
