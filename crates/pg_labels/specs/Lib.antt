pub mod LabelText
pub mod PageLines
pub mod LabelLines
pub mod Drafts
pub mod Reading
