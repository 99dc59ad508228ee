pub mod Alone
pub mod Notes
