pub mod Validity
pub mod Parts
pub mod Paragraphs
pub mod IndexMarks
