pub mod Shapes
pub mod Lex
pub mod Fronts
pub mod Spans
pub mod Spots
pub mod Numbers
