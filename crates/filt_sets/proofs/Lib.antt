pub mod Cuts
mod Given
mod InOrder
mod Marks
mod Meaning
mod NetOrder
