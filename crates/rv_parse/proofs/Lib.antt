mod Again
mod Needing
mod Lists
mod TextStatements
mod Takes
pub mod Keywords
pub mod Kept
