-- What stands first, and what a channel sends.
pub mod First
pub mod Sent
pub mod Inside
