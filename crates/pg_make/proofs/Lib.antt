pub mod Paragraphs
pub mod Worked
