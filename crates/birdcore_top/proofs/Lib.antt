mod AnsweredOnce
pub mod Cells
pub mod Asking
pub mod Judged
pub mod Joined
pub mod Outcomes
pub mod Decided
pub mod Owed
mod Lent
mod Sure
