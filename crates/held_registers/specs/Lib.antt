pub mod Held
pub mod Prelude
