mod Lists
mod Passes
mod Stacks
mod Steps
mod Unstuck
mod Waits
mod Wholes
mod Works
