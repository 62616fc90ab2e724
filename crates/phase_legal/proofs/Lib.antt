pub mod Merging
pub mod Made
pub mod Stamping
pub mod Answering
