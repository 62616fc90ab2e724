pub mod Sources
pub mod Ports
pub mod Stands
pub mod Locks
pub mod Parts
pub mod Sessions
pub mod Left
pub mod First
