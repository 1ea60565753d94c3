pub mod Pages
pub mod Finding
