pub mod drafting
pub mod Expanded
