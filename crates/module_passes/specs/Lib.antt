pub mod Owned
pub mod BeforeRest
