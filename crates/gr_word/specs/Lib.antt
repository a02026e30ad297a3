pub mod Words
pub mod Names
pub mod Fitting
pub mod Prelude
