pub mod Members
pub mod Ports
pub mod Begun
