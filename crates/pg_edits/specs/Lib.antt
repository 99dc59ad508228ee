pub mod Kinds
pub mod Instructions
pub mod Script
