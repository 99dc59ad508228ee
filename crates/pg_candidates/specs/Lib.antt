pub mod View
pub mod Spots
pub mod RoomEnds
pub mod Nears
pub mod Seen
pub mod Groups
pub mod Taken
pub mod Alone
