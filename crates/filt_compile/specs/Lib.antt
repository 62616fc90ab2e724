pub mod Compiles
pub mod Emits
pub mod Parts
pub mod Ranges
