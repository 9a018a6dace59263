pub mod Depends
pub mod Examples
pub mod Needed
