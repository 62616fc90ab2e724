pub mod Lookups
pub mod Sets
