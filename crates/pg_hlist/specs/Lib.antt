pub mod Items
pub mod Nodes
pub mod ParsedLine
pub mod Reading
