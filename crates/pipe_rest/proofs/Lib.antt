pub mod Goes
pub mod Raised
