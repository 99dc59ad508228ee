pub mod OrderLaws
pub mod LastLemmas
pub mod BackwardsLemmas
pub mod PickLemmas
