use Rattle.std.proofs.Common.{◌≡◌, ◌++◌, drop}
use Rattle.resident_alloc.specs.Prelude.{left_out}
use Rattle.resident_alloc.proofs.sharing.left_out.Given as goal

abbrev pub invariant-loop-v : goal.invariant-loop-v
invariant-loop-v l = l.out.items ++ left_out l.class l.left (drop l.v-index l.vs) ≡ left_out l.class l.room l.vs
