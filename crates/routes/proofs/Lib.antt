pub mod Gathering
pub mod Distances
pub mod Searching
pub mod Going
pub mod Descending
pub mod Answers
pub mod Cutting
pub mod Seconding
