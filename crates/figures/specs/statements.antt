pub mod Statement
pub mod Figures
pub mod Passes
