pub mod Clocked
pub mod Drawing
pub mod Filled
pub mod Noted
pub mod Scanning
pub mod Twins
pub mod Viewing
