pub mod CalledFew
mod Same
mod Uncalled
