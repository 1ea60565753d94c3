pub mod Laying
pub mod Fitting
pub mod Offering
pub mod Reading
