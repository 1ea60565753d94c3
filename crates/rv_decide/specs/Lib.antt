pub mod Choosing
pub mod Course
pub mod Naming
pub mod Reading
pub mod Told
