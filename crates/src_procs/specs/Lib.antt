pub mod Views
pub mod Expanding
pub mod Begun
pub mod Prelude
