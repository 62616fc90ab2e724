mod Runs
mod Turns
mod Found
pub mod Reached
pub mod Tokens
pub mod Between
pub mod Readings
pub mod Numbers
mod Places
pub mod Within
pub mod Spots
mod Signs
mod Decimals
