pub mod Owned
pub mod Limits
pub mod Hoisting
