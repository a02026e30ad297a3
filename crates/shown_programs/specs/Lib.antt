pub mod ShownNames
pub mod Prelude
