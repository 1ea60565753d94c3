pub mod Fetches
pub mod Found
pub mod Pages
pub mod Telling
pub mod Fetching
