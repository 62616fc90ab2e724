pub mod Places
pub mod Growing
pub mod Replying
pub mod Doing
pub mod Lines
pub mod Walking
