pub mod Nodes
pub mod Trees
pub mod Sound
pub mod Stored
pub mod Children
pub mod Descent
pub mod Ranks
