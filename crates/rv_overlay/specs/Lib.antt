pub mod Freezing
pub mod Fronts
pub mod Keeping
pub mod Laying
pub mod Members
pub mod Overlaid
pub mod Rows
pub mod Views
