pub mod Allowed
pub mod ConstantValues
pub mod Growing
pub mod Names
mod Options
pub mod Places
pub mod Settings
pub mod Standing
