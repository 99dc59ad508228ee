pub mod PieceLemmas
pub mod Placed
pub mod Filled
mod Faithful
pub mod WorkedDrawings
pub mod Summed
pub mod Limits
mod WidthLemmas
mod T1Letters
