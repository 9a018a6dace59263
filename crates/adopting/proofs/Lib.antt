pub mod Counting
pub mod Meaning
pub mod Comparing
