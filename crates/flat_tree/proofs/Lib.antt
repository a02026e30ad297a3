pub mod Agreeing
pub mod Keeping
pub mod Falling
pub mod Writing
pub mod Bounds
