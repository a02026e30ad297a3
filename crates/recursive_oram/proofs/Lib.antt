pub mod Kept
pub mod Led
pub mod ComingDown
pub mod Counted
pub mod Made
pub mod Read
pub mod Quarters
pub mod ByLevel
