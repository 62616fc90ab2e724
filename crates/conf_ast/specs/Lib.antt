pub mod Names
pub mod Packed
pub mod Filters
pub mod Configurations
