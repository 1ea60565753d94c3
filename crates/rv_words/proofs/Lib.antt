mod Accepts
mod Forms
mod Items
pub mod Loops
pub mod Told
mod Values
pub mod Walking
