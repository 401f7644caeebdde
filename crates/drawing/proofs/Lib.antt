pub mod Table
pub mod Folded
