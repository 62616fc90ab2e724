pub mod Spelling
pub mod Entries
pub mod Reading
pub mod Worked
