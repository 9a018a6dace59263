pub mod Hops
pub mod Pairs
pub mod Less
