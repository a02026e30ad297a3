use Rattle.std.proofs.Common.{◌≡◌, map, take}
use Rattle.resident_alloc.proofs.planning.slots_of.Given as goal

abbrev pub invariant-loop-v : goal.invariant-loop-v
invariant-loop-v l = l.slots.items ≡ map (λ v. v.slot) (take l.v-index l.planned)
