pub mod Lists
pub mod Places
pub mod Sums
pub mod Drawing
