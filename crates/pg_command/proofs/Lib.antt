pub mod Fronts
pub mod WordLemmas
pub mod Pieces
pub mod WorkedWords
pub mod WorkedLines
