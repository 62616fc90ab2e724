pub mod Described
pub mod Behind
pub mod Inside
