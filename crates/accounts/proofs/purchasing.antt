pub mod Raising
pub mod Buying
