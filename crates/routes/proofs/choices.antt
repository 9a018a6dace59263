pub mod Lists
pub mod Keeping
pub mod Steps
pub mod Nears
pub mod Turns
pub mod Answers
pub mod Books
