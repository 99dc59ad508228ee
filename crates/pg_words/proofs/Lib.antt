mod Sizes
mod WorkedWords
