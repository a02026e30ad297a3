pub mod EscapedNames
pub mod Plain
pub mod Prelude
