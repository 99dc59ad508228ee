pub mod Steps
pub mod Ages
pub mod Line
pub mod Listed
pub mod StateTest
pub mod Laws
