mod Opened
mod Lefts
pub mod Known
mod Going
mod Resting
pub mod Recorded
pub mod Done
