pub mod Spaces
pub mod Fills
pub mod Names
