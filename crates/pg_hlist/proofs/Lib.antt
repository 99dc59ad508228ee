pub mod Known
pub mod Growing
pub mod RunLemmas
