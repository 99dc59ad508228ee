mod Cases
mod Ranges
