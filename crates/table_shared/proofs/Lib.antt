pub mod Records
pub mod Families
pub mod Keeping
pub mod RowParts
pub mod Appending
pub mod Histories
pub mod Receipts
pub mod Taken
