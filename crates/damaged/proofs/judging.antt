pub mod Holding
pub mod Reasons
