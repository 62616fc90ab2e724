pub mod Starts
pub mod Past
