pub mod meeting
pub mod Verdict
