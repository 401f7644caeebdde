pub mod Fields
pub mod Comparisons
pub mod Determined
