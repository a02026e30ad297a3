pub mod Operators
pub mod Memory
pub mod Trees
pub mod Shorthands
pub mod Values
pub mod FirstWords
pub mod Meaning
