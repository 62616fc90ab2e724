pub mod Covering
pub mod Laws
mod Longest
pub mod NetRows
pub mod NetSteps
pub mod OneNet
pub mod Picking
