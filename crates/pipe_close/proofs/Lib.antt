pub mod Marked
pub mod Closing
pub mod Placed
pub mod Ending
pub mod Turned
pub mod Sessions
