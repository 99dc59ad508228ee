pub mod LineLemmas
pub mod WholeLemmas
pub mod CleanLines
pub mod PartLemmas
pub mod OneLine
pub mod FirstFeed
