mod Fronts
mod Sayings
