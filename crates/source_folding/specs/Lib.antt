pub mod Folded
pub mod Numbers
pub mod Prelude
