pub mod Rest
pub mod Stage
pub mod Work
pub mod LaneWork
pub mod Shell
