pub mod TextParts
pub mod ItemLines
pub mod Memory
pub mod ItemBlocks
pub mod Steps
pub mod ListKinds
pub mod FaultKinds
pub mod WorkedScripts
