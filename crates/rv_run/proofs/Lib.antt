pub mod CallLists
pub mod Ends
pub mod Fits
pub mod Led
pub mod Rulings
pub mod Served
pub mod Threads
