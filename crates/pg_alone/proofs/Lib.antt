mod Dealt
pub mod Finding
mod Heights
mod High
mod HighNotes
mod Picked
mod Placeless
mod Runs
