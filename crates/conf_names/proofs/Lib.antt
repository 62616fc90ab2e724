pub mod Firsts
pub mod Joins
pub mod Numbers
pub mod Turns
pub mod Places
pub mod Wholes
