pub mod Pruned
pub mod Handed
pub mod Needed
pub mod LiveSeen
pub mod Prelude
