pub mod FastLayout
pub mod Compiles
pub mod Implements
pub mod HeldNumbers
pub mod AgreeingStores
pub mod Prelude
