pub mod Address
pub mod Numbers
pub mod Parts
pub mod Prefix
pub mod Text
pub mod Out
pub mod Quarters
