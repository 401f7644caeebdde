pub mod Format
pub mod Meaning
pub mod Reading
pub mod Walk
