mod Ends
mod Excluded
