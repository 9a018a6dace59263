pub mod Steps
pub mod Turns
pub mod Indexing
pub mod Calling
pub mod Unique
