pub mod Left
pub mod Ended
pub mod Turned
