-- The definitions that clauses and proofs above cite, passed on from one place. Declares nothing.
pub use Rattle.procs_pruning.specs.Handed.{HandsOn}
unfoldable pub use Rattle.procs_pruning.specs.Handed.{Arguments, SameStatement, argument_of, argument_seen, arguments_under, bare, handed, with_argument}
pub use Rattle.procs_pruning.specs.Needed.{LiveBody, marked_all}
unfoldable pub use Rattle.procs_pruning.specs.Needed.{AgreeOn, DependsOn, KeptOf, Placed, argument_at, first_tree, keep_where, keeps, kept_by, kept_from, kept_in, marked, marked_argument, marked_kept, no_body}
pub use Rattle.procs_pruning.specs.Pruned.{ArePruned, IsPruned, pruned}
unfoldable pub use Rattle.procs_pruning.specs.Pruned.{SameCode, behind, unless_none, with_first}
unfoldable pub use Rattle.procs_pruning.specs.LiveSeen.{bodies_of, body_of, live_block, live_of, placed_of, trees_seen}
