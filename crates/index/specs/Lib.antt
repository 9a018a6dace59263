pub mod Areas
pub mod Turns
pub mod Marks
pub mod Folding
pub mod Index
pub mod Beside
