pub mod Looser
