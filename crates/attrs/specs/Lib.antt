pub mod Clist
pub mod Gather
pub mod Text
pub mod Selection
pub mod History
pub mod Table
pub mod Select
