pub mod Places
pub mod Settings
pub mod Wholes
