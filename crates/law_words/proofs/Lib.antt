pub mod Cut
pub mod Equal
pub mod Numbers
pub mod Wholes
pub mod Lengths
pub mod Words
pub mod Blanks
