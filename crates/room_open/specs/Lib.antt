pub mod Standing
pub mod Sources
pub mod Opening
pub mod Lists
pub mod Laid
