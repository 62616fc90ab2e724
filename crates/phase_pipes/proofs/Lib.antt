pub mod Sourcing
pub mod Beginning
pub mod Operating
pub mod Porting
pub mod Opened
pub mod Owing
