mod Growing
mod Labels
mod Options
mod Selectors
mod Tallies
mod TellQuestions
pub mod ToldAddresses
mod Turns
mod Whole
