pub mod Lowering
pub mod Naming
pub mod Shape
pub mod Promise
