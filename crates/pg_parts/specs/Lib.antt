pub mod Parts
pub mod Priced
