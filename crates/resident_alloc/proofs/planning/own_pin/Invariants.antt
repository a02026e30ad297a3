use Rattle.std.proofs.Common.{◌≡◌, drop}
use Rattle.resident_alloc.specs.Prelude.{own_pin}
use Rattle.resident_alloc.proofs.planning.own_pin.Given as goal

abbrev pub invariant-loop-v : goal.invariant-loop-v
invariant-loop-v l = own_pin (drop l.v-index l.planned) l.slot ≡ own_pin l.planned l.slot
