pub mod Breaks
pub mod FirstFit
pub mod Ahead
pub mod Faults
pub mod Compare
pub mod Laws
pub mod Single
pub mod Looking
