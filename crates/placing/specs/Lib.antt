pub mod plain
pub mod Answers
pub mod Marking
pub mod Covers
