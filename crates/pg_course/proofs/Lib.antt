pub mod MadeFloats
pub mod Making
pub mod Runs
pub mod WorkedLines
pub mod Checks
pub mod Edited
pub mod Complete
pub mod Shown
pub mod Counts
pub mod Scripts
pub mod Stepping
pub mod Labelled
pub mod Fits
pub mod Paragraphs
pub mod Stops
mod OneFit
mod OneText
mod OneAnswer
mod OneRun
mod OneCourse
