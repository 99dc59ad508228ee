pub mod Near
pub mod Read
