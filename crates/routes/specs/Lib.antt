pub mod choices
pub mod Planner
pub mod Levels
pub mod Second
