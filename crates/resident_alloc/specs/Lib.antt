pub mod Residents
pub mod ResidentPlan
pub mod ResidentFits
pub mod Ranges
pub use Rattle.src_tree.specs.Trees
pub use Rattle.src_tree.specs.Typing
pub use Rattle.src_tree.specs.Limits
pub mod Prelude
