mod Halved
mod InOrder
mod Least
mod Longer
mod Own
mod Ranges
