pub mod Same
pub mod Distinct
pub mod Histories
pub mod Nets
pub mod Rows
pub mod Shown
pub mod Bests
pub mod Covering
