pub mod Giving
pub mod Holding
pub mod Moving
pub mod Fewer
pub mod Seeing
