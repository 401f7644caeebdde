pub mod Kind
pub mod Rules
pub mod States
pub mod Paragraphs
pub mod IndexMarks
