pub mod cutting
pub mod judging
