pub mod Laid
pub mod Runs
pub mod Calls
pub mod PlaceEnds
pub mod KeptLaid
pub mod OneProof
