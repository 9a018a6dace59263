pub mod reader
pub mod finding
pub mod adding
pub mod closing
