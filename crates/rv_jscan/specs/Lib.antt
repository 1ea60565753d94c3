pub mod Entries
pub mod Pieces
pub mod Joint
pub mod Steps
pub mod Lanes
pub mod Planned
