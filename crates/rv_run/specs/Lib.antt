pub mod Judges
pub mod Making
pub mod Performing
pub mod Phases
pub mod Ruling
pub mod Script
pub mod Serving
pub mod Words
