use Rattle.std.proofs.Common.{◌≡◌, length, map}
use Rattle.procs_tree.specs.Prelude.{AreSizes, procedure_of}
use Rattle.procs_tree.proofs.sizes.body_sizes.Given as goal

abbrev pub invariant-loop-i : goal.invariant-loop-i
invariant-loop-i l =
    (length l.sizes.items ≡ l.i) × AreSizes (map procedure_of l.procs) l.sizes.items
