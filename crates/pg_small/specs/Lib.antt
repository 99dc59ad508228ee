pub mod Seen
pub mod Columns
pub mod Layouts
pub mod Parts
