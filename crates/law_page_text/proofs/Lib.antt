mod SetSizes
mod Shrinking
mod Shown
mod Filling
