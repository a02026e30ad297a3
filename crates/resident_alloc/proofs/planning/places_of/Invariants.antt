use Rattle.std.proofs.Common.{◌≡◌, map, take}
use Rattle.resident_alloc.proofs.planning.places_of.Given as goal

abbrev pub invariant-loop-v : goal.invariant-loop-v
invariant-loop-v l = l.places.items ≡ map (λ v. v.place) (take l.v-index l.planned)
