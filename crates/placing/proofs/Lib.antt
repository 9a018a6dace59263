pub mod Choosing
pub mod Searching
pub mod OneAnswer
pub mod Hops
pub mod Beside
