pub mod Carries
pub mod Fitting
pub mod Heads
pub mod HeadsText
pub mod Walked
pub mod Told
