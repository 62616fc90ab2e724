pub mod Acted
pub mod Started
