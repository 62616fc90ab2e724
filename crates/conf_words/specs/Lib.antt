pub mod Significant
pub mod Marks
pub mod Bytes
