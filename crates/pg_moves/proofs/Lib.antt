pub mod AllSteps
pub mod Added
pub mod Standing
pub mod Stepped
pub mod Built
pub mod NoFloats
pub mod Late
