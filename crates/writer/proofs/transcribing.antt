pub mod Parts
pub mod Copied
