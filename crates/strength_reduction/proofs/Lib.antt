pub mod SetBits
pub mod Wrapping
pub mod ProductResults
pub mod QuotientResults
pub mod Shapes
pub mod Replacing
pub mod Codes
pub mod Registers
