pub mod Applying
pub mod Members
pub mod Fitting
