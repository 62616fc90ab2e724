pub mod Lists
pub mod Sharing
