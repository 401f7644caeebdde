pub mod Blocks
pub mod Heads
pub mod Drawn
pub mod Images
pub mod Loops
pub mod Rising
pub mod Below
pub mod Stepping
