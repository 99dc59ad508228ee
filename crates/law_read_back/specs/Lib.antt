pub mod Ranges
pub mod PageRanges
pub mod StateRanges
pub mod OutputLaws
pub mod RecheckLaws
