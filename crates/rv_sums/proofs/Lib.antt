pub mod Reading
pub mod Spending
pub mod Pieces
pub mod Ending
pub mod Uniting
pub mod Fetching
