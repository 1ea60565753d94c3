pub mod Runs
pub mod Telling
pub mod Verdicts
