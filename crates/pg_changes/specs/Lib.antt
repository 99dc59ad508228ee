pub mod Numbers
pub mod Changes
