pub mod Open
pub mod Beside
pub mod Keeping
