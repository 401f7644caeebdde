pub mod Laws
pub mod Tree
