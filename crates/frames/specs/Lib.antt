pub mod Lengths
pub mod Asking
