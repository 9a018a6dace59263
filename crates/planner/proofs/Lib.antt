pub mod Lifts
pub mod Making
pub mod Listing
pub mod Links
pub mod Marked
pub mod Single
pub mod Keeping
