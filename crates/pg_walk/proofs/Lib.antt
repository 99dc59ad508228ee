pub mod Lifted
pub mod Moves
mod Gives
pub mod Reaches
pub mod Labels
pub mod Collecting
pub mod Greatest
pub mod First
pub mod FurthestBlocks
pub mod Several
pub mod Standing
pub mod Behind
pub mod Moved
pub mod InRoom
pub mod ForRooms
