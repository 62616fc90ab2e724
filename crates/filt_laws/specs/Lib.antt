pub mod Behind
pub mod Operators
pub mod Sound
