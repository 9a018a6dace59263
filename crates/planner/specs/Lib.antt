pub mod Balances
pub mod Marks
