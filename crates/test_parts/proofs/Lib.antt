pub mod Badness
pub mod Breaks
pub mod Cases
pub mod Columns
pub mod Floats
pub mod Notes
pub mod Queues
pub mod Widths
