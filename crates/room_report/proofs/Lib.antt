pub mod Looping
pub mod Serving
pub mod Written
pub mod Following
