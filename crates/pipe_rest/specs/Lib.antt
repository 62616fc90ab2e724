pub mod Later
pub mod Heads
pub mod Inside
