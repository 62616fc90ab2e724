pub mod Tested
pub mod Signs
pub mod ItemSteps
pub mod Steps
pub mod Derived
pub mod Picks
pub mod TypeSteps
