pub mod Mask
pub mod Search
pub mod Sets
