pub mod AddKept
pub mod AddParts
pub mod CommunityWords
pub mod Kept
mod NumberRuns
mod Numerals
pub mod Options
pub mod Words
