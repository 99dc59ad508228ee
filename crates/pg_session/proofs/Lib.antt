mod Faults
mod Right
mod Reaching
mod Above
mod Edited
mod Spliced
mod Paginated
pub mod Counted
mod Worked
