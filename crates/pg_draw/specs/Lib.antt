pub mod Escaped
pub mod Words
pub mod Lines
pub mod Texts
