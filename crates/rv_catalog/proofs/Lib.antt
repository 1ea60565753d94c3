pub mod Different
pub mod Forms
pub mod Keeps
pub mod Known
pub mod Listed
pub mod Steps
pub mod There
