mod Excluded
