mod Least
mod Places
mod Remembered
mod Searched
mod Spared
