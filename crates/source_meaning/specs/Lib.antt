pub use Rattle.src_tree.specs.Meaning
pub mod Outcomes
pub mod Placed
pub mod Kept
pub mod Prelude
