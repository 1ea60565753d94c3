pub mod Tables
pub mod Indexing
pub mod Indexes
pub mod Whole
pub mod Places
pub mod Paged
