mod BadStyles
mod Sayings
