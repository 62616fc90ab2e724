pub mod Channels
pub mod Protocols
pub mod Statements
pub mod Walks
