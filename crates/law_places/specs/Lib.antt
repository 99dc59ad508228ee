pub mod Past
pub mod PlaceLaws
pub mod CutLaws
