pub mod NameLemmas
pub mod TableLemmas
pub mod EntryLemmas
pub mod RunLemmas
pub mod ClassLemmas
pub mod TextLemmas
