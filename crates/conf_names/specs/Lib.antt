pub mod Refusals
pub mod Joints
pub mod Known
pub mod Constants
pub mod Seen
pub mod Names
pub mod Regions
