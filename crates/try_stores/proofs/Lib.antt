pub mod Draws
pub mod Falling
pub mod Filling
pub mod Laying
pub mod Scanning
