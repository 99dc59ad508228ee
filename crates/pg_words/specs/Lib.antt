pub mod Written
pub mod Read
pub mod InOrder
pub mod EntriesLeft
