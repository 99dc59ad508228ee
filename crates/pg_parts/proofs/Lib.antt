mod AddUp
mod Amounts
mod Standing
