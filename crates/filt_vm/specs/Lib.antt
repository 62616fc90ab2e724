pub mod Levels
pub mod Machines
pub mod Seen
