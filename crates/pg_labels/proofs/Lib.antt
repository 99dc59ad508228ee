mod Printed
pub mod Runs
mod WorkedTexts
mod WorkedLabels
mod WorkedOutputs
mod Few
