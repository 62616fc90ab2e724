pub mod Turns
pub mod Changes
pub mod Stamps
pub mod Shown
pub mod Ended
