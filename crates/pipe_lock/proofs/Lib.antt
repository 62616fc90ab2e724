pub mod Planning
pub mod Marking
pub mod Signalling
pub mod Passing
pub mod Worked
