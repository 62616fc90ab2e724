pub mod View
pub mod Readers
pub mod Sentence
pub mod Position
pub mod Read
