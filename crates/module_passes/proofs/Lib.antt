pub mod Onto
pub mod Functions
