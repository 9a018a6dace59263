pub mod Promises
pub mod OnAir
pub mod Needed
pub mod Mains
pub mod Index
pub mod Accounts
pub mod Salvage
