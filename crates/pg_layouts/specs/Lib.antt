pub mod Counts
pub mod Layouts
pub mod Behind
pub mod Fit
pub mod Laws
pub mod ListsKept
