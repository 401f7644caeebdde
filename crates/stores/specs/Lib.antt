pub mod Blocks
pub mod Faults
pub mod Stores
pub mod Cut
pub mod United
pub mod Access
pub mod Placed
