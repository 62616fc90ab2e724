mod Reading
mod Doors
