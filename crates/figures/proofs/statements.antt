pub mod Adding
pub mod Passing
pub mod Summing
pub mod Lifts
pub mod Fronts
pub mod Unique
pub mod Refusals
