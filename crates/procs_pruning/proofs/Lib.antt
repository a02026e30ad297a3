pub mod Pruning
pub mod HandedOn
pub mod NeededNames
pub mod KeptParameters
