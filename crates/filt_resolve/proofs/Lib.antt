pub mod Forms
pub mod Levels
pub mod Lookups
pub mod Placed
pub mod Resolving
pub mod Taken
pub mod Tested
