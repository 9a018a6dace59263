pub mod Reaching
pub mod Comparing
