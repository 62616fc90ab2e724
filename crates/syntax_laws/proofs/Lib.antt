pub mod Told
mod Each
mod Made
mod Spelled
mod Mended
pub mod Parts
pub mod Rows
mod ExpressionsFit
pub mod Decided
mod ChainParts
pub mod SortsOfWords
pub mod ItemsTold
pub mod ExprTold
pub mod ArmsTold
pub mod StatementsTold
mod Apart
pub mod Pasts
mod Texts
