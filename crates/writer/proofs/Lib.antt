pub mod Laws
pub mod Books
