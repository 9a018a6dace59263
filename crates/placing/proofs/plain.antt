pub mod Euclid
pub mod Places
pub mod Weighing
pub mod Agreeing
pub mod Beside
pub mod Alike
