pub mod Opening
pub mod Records
pub mod Answers
pub mod Views
pub mod Kept
pub mod Prepared
pub mod Phases
pub mod Taken
