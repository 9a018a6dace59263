pub mod Writing
pub mod NoStreams
pub mod Hops
