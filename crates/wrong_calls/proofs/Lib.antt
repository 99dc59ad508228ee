mod Excluded
mod Sheets
