pub mod Fresh
pub mod More
