pub mod Apart
pub mod Calls
pub mod Changing
pub mod Halves
pub mod Touched
