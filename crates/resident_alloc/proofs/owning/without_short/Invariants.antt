use Rattle.std.proofs.Common.{◌≡◌, ◌++◌, drop}
use Rattle.resident_alloc.specs.Prelude.{without_short}
use Rattle.resident_alloc.proofs.owning.without_short.Given as goal

abbrev pub invariant-loop-v : goal.invariant-loop-v
invariant-loop-v l = l.out.items ++ without_short l.size l.left (drop l.v-index l.vs) ≡ without_short l.size l.n l.vs
