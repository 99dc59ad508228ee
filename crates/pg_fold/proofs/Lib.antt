mod WorkedSheets
mod FacePlaces
mod LayoutSizes
mod Natural
mod Places
mod Tally
pub mod OneReading
mod Printed
mod ReadSheets
mod Runs
