pub mod ReachAt
pub mod ReachLaws
pub mod PageSpace
pub mod SpaceLaws
