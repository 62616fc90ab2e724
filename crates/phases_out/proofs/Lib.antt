pub mod Writing
pub mod Running
