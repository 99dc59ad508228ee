pub mod Answers
pub mod Column
pub mod Kept
pub mod Listed
pub mod Lists
pub mod Walk
