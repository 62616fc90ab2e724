pub mod Name
pub mod Question
pub mod Seen
pub mod Inside
