pub mod Ways
pub mod Seeking
pub mod Collecting
pub mod Holding
