pub mod Leads
pub mod Served
pub mod Told
