pub mod Tables
pub mod Channels
pub mod Routes
