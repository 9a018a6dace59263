pub mod statements
pub mod months
pub mod printing
