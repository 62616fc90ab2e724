pub mod Import
pub mod Imports
pub mod Decisions
pub mod Operations
pub mod Changes
pub mod Held
pub mod Importers
