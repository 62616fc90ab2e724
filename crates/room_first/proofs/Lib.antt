mod Turns
mod Numbers
mod Placed
mod Standing
