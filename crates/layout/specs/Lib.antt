pub mod Orders
pub mod Layout
