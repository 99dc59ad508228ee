pub mod SessionValue
pub mod Edits
pub mod Reached
pub mod Sessions
pub mod Kept
pub mod Shows
