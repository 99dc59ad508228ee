mod FittingColumns
mod FlatMarks
pub mod OneBest
pub mod OneFrontier
pub mod FewPages
pub mod ShortFits
