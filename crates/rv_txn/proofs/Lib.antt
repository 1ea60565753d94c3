pub mod Apart
pub mod Beginning
pub mod Halving
pub mod Pages
pub mod Touching
pub mod Views
pub mod Laying
