pub mod Steps
pub mod Reduced
pub mod Prelude
