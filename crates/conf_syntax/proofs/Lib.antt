mod Adjacent
mod BehindNets
mod BehindRoutes
pub mod Ends
pub mod FirstWords
pub mod Heads
mod LastBracket
pub mod LiteralSteps
mod Never
mod Prefixes
mod Swaps
pub mod TransportSteps
mod WithinSets
