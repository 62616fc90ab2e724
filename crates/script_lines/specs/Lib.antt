pub mod Grammar
pub mod Kinds
pub mod NamePlaces
pub mod Script
pub mod Inside
