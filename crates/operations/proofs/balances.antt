pub mod Balances
pub mod Walks
