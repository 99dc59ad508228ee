pub mod Cover
pub mod WellFounded
pub mod Order
pub mod Complete
mod Sound
mod Passing
pub mod Failing
pub mod OneFault
mod BestPicks
