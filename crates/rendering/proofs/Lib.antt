pub mod Laying
pub mod Rendering
pub mod Refusing
pub mod Ranks
pub mod Planned
