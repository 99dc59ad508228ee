pub mod Stepping
pub mod Thinned
pub mod Outdone
pub mod Columns
