mod Going
mod Resting
