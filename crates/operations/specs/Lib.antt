pub mod balances
pub mod Operations
