pub mod Placed
pub mod Keeping
