pub mod Acting
pub mod Forms
pub mod Gathered
pub mod Growing
pub mod Light
pub mod Loaded
pub mod Told
pub mod Whole
