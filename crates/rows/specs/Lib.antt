pub mod Frame
pub mod Walk
pub mod Pairs
pub mod Fill
pub mod Hops
