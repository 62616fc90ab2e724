mod Going
mod Moving
mod Turning
