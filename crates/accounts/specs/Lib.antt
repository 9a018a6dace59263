pub mod purchasing
pub mod Lists
