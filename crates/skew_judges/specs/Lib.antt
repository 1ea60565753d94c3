pub mod Guard
pub mod Rules
