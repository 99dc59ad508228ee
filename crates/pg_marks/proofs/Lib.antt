pub mod Carried
mod FoundLabels
pub mod PassedOver
mod Printed
mod WorkedMarks
