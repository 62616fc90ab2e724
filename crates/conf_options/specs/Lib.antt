pub mod Options
pub mod Defaults
pub mod Kinds
pub mod Laws
