pub mod Asking
pub mod Driving
pub mod Planning
pub mod Selecting
pub mod Standing
