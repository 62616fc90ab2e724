pub mod Planning
pub mod Sending
pub mod Recording
pub mod Turning
pub mod Sharing
pub mod Marking
pub mod Beginning
