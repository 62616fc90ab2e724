pub mod Setups
pub mod Names
pub mod Scripts
