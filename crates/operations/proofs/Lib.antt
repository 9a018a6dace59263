pub mod Working
pub mod Stops
