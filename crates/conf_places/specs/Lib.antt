pub mod Filters
pub mod Configurations
pub mod Words
pub mod Refused
