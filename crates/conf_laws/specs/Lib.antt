pub mod Alike
pub mod Balanced
pub mod Spaced
pub mod Begun
