pub mod Costs
pub mod Counting
pub mod Steps
pub mod Prelude
