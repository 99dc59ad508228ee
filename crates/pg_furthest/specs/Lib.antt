pub mod Furthest
pub mod Searches
pub mod Pages
