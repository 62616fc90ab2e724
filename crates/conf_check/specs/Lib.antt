pub mod Behind
pub mod Refused
pub mod Checked
pub mod Seen
