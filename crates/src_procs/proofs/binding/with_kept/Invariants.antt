use Rattle.std.proofs.Common.{◌≡◌, drop, map}
use Rattle.procs_pruning.specs.Prelude.{placed_of, trees_seen}
use Rattle.src_procs.specs.Prelude.{with_kept, binding_of, names_of}
use Rattle.src_procs.proofs.binding.with_kept.Given as goal

abbrev pub invariant-loop-k : goal.invariant-loop-k
invariant-loop-k l =
    with_kept (names_of l.caller) (binding_of l.bounds l.made) (map placed_of (drop l.k-index l.kept))
    (trees_seen l.arguments)
    ≡ with_kept (names_of l.caller) (binding_of l.fn.bounds l.fn.made) (map placed_of l.kept) (trees_seen l.arguments)
