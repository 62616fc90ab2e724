pub mod Codes
pub mod Costs
pub mod Worked
