pub mod Playing
pub mod Running
pub mod Faults
pub mod Inside
