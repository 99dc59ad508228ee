pub mod AreaSums
pub mod Gives
pub mod Called
mod Flushed
pub mod Lists
mod InParts
pub mod Numbers
pub mod Parts
pub mod Places
pub mod Queues
pub mod History
pub mod Ranges
pub mod Takes
pub mod Capped
pub mod Heights
pub mod Dealt
pub mod Spents
