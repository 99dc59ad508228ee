pub mod Once
pub mod Reading
pub mod Rules
pub mod CalloutsPassed
pub mod Picks
pub mod EachOnce
