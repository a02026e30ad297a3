use Rattle.std.proofs.Common.{◌≡◌, length, map}
use Rattle.procs_tree.specs.Prelude.{procedure_of}
use Rattle.procs_pruning.specs.Prelude.{ArePruned, bodies_of}
use Rattle.procs_pruning.proofs.live.live_bodies.Given as goal

abbrev pub invariant-loop-i : goal.invariant-loop-i
invariant-loop-i l =
    (length l.bodies.items ≡ l.i) × ArePruned (map procedure_of l.procs) (bodies_of l.bodies.items)
