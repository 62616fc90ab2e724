pub mod Steps
pub mod Limits
pub mod Agreement
pub mod Configured
