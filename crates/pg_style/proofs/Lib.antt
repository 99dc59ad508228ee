pub mod ClassLemmas
pub mod DistanceLemmas
