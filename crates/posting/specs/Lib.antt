pub mod Records
pub mod Standing
pub mod Posting
