mod Spelled
pub mod Folded
mod Walks
pub mod Good
pub mod Chains
pub mod Checks
pub mod Exact
pub mod Unique
pub mod Symbols
pub mod PartShapes
