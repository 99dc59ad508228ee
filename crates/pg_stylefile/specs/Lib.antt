pub mod Faults
pub mod Keys
pub mod Names
pub mod Root
pub mod Style
pub mod Tables
pub mod Values
