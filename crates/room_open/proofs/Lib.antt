pub mod Places
pub mod Told
pub mod Laying
pub mod Entering
pub mod Piping
pub mod All
pub mod Seating
pub mod Beginning
