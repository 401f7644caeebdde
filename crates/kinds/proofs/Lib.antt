pub mod Terms
pub mod Strict
