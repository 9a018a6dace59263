pub mod Places
pub mod Stands
pub mod Walks
pub mod Topologies
pub mod Marks
pub mod Hops
pub mod Behind
