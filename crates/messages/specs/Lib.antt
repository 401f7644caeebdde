pub mod Messages
pub mod Paragraph
pub mod IndexMark
