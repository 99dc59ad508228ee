pub mod Counts
pub mod Looser
