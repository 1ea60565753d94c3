pub mod Descents
pub mod Facts
pub mod Growing
pub mod Halves
pub mod Places
pub mod Rooting
pub mod Starting
pub mod Finding
mod Empty
pub mod Exact
pub mod Steps
