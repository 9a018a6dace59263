pub mod Decoded
pub mod Testing
