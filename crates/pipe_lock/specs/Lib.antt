pub mod Terms
pub mod Kept
pub mod Begun
pub mod Calls
pub mod Locks
pub mod Doors
