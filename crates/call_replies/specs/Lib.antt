pub mod Texts
pub mod NameText
pub mod Prelude
