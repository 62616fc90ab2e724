pub mod Places
pub mod Follows
pub mod RefusedTokens
pub mod StatementSteps
pub mod StatementTrees
pub mod CycleSteps
pub mod ArmSteps
