pub mod Indexing
pub mod Changing
pub mod Listing
pub mod Tabling
pub mod Turning
pub mod Standing
pub mod Placing
pub mod Owning
