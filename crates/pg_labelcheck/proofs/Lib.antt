mod Answered
mod Differing
mod OneByOne
mod Opened
mod Passes
mod Shows
