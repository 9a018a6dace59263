pub mod Search
pub mod Listing
