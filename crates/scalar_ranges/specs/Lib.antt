pub mod Ranges
pub mod Known
pub mod Comes
pub mod Prelude
