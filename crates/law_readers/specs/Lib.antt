pub mod FaultsStay
pub mod Begins
pub mod InOrder
pub mod LinesRead
pub mod Galleys
pub mod Paragraphs
pub mod Scripts
