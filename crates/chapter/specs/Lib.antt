pub mod Answers
pub mod Coded
pub mod Layout
pub mod Check
pub mod Deliver
pub mod LookUp
pub mod Page
pub mod Examples
