pub mod Left
pub mod Ended
pub mod Synced
pub mod Played
pub mod Prints
pub mod After
