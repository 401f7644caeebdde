pub mod Counting
pub mod Opening
pub mod Walking
pub mod Written
