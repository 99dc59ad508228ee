pub mod OneMore
pub mod CountLists
pub mod Areas
pub mod Fits
pub mod Answered
pub mod Contracts
