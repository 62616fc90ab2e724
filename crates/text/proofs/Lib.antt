pub mod Runs
mod LineCuts
mod WordCuts
