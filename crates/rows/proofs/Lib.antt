pub mod Nodes
pub mod Rises
pub mod Single
pub mod Pairs
pub mod Walks
pub mod Filling
pub mod Paying
pub mod Hops
