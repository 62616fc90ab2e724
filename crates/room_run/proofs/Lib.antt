mod Starters
mod Turns
mod Locks
mod Hearing
mod Seats
mod Rooms
mod Sharing
