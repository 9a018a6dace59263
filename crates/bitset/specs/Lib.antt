pub mod clash
pub mod Sets
pub mod Rows
