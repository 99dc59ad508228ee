mod LastBreak
mod LineByLine
mod Shares
