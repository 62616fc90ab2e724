pub mod Command
pub mod Given
pub mod Outcome
pub mod Answer
pub mod Written
pub mod Answered
