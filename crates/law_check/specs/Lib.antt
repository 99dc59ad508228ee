pub mod Gaps
pub mod LabelLaws
pub mod Tests
pub mod Faults
pub mod CheckLaws
