pub mod Blocks
pub mod Counts
pub mod Reading
pub mod Streams
