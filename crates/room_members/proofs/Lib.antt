pub mod Rooms
pub mod Pipes
pub mod Passes
