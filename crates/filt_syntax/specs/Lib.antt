pub mod Parse
pub mod RefusedToken
pub mod Tokens
pub mod StatementView
pub mod StatementReaders
pub mod Inside
