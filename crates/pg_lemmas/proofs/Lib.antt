pub mod Bools
pub mod Numbers
pub mod Lists
pub mod Orders
pub mod InPlace
pub mod Utf8
