pub mod Drafts
pub mod Lines
pub mod Script
