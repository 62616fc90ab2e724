mod Keeping
mod Resting
mod Ending
