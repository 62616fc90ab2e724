pub mod Chosen
pub mod Leaving
pub mod Sending
pub mod Settling
