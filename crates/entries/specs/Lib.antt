pub mod tracing
pub mod Entries
pub mod Keys
