pub mod Retired
pub mod Left
pub mod Turned
pub mod Closed
pub mod Rooms
pub mod Whole
