mod AmongPowers
mod Joined
pub mod FoldedTrees
pub mod FoldedPrograms
