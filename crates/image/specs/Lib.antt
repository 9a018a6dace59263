pub mod Places
pub mod Header
