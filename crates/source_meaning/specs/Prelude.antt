-- The definitions that clauses and proofs above cite, passed on from one place. Declares nothing.
pub use Rattle.source_meaning.specs.Kept.{KeepsFit}
pub use Rattle.source_meaning.specs.Placed.{Action, Actions, Before, Choose, NoAction, PutElement, PutScalar, Repeat, act, act_all, placed_block, placed_statement}
unfoldable pub use Rattle.source_meaning.specs.Placed.{action_of, actions_joined, actions_of_all, holds_at, left_with, placed_check, placed_test, placed_tree, value_at}
