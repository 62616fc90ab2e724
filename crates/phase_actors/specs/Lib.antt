pub mod Texts
pub mod Acting
pub mod Script
pub mod Steps
