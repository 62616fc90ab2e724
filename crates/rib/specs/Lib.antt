pub mod Rib
pub mod Entries
pub mod Inside
pub mod Order
pub mod Outcome
pub mod Picks
pub mod Steps
