pub mod Generated
pub mod Made
