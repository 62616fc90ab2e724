mod Defined
mod Kept
pub mod Forms
pub mod Size
pub mod Steps
