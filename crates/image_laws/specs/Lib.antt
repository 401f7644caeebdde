pub mod Formed
pub mod Walking
pub mod Arriving
