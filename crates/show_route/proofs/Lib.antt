mod Answering
mod Expected
mod Members
mod ReplyPieces
mod Settling
mod Tables
mod Tallies
