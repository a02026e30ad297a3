use Rattle.std.proofs.Common.{◌≡◌, [], replicate}
use Rattle.path_oram.proofs.first.empty_tree.Given as goal

abbrev pub invariant-loop : goal.invariant-loop
invariant-loop l = l.tree.items ≡ replicate l.counter []
