pub mod Syntax
pub mod Options
pub mod View
pub mod Readers
pub mod Pairs
