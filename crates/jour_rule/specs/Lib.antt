pub mod Cells
pub mod Journal
pub mod Laws
pub mod Moves
