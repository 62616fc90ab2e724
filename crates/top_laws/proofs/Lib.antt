mod Counted
mod Exists
mod Legal
mod Says
