mod Columns
mod Furthest
mod Lasts
mod Stands
