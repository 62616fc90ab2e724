pub mod Scripts
pub mod Parts
pub mod Cores
pub mod Made
pub mod Phase
pub mod Playing
