use Rattle.std.proofs.Common.{◌≡◌, ◌++◌, drop}
use Rattle.procs_tree.specs.Prelude.{added}
use Rattle.src_procs.proofs.inlining.with_added.Given as goal

abbrev pub invariant-loop-i : goal.invariant-loop-i
invariant-loop-i l = l.all.items ++ added l.i (drop l.i l.labels) ≡ l.fn.decls.items ++ added 0 l.labels
