pub mod SignificantSteps
pub mod SignificantWalks
pub mod SpotSteps
pub mod TokenSteps
