use Rattle.std.proofs.Common.{◌≡◌, ◌+◌, drop}
use Rattle.spread_alloc.specs.Prelude.{pinned_from}
use Rattle.spread_alloc.proofs.spreading.pin_from.Given as goal

abbrev pub invariant-loop-i : goal.invariant-loop-i
invariant-loop-i l = pinned_from l.pins (drop l.i l.slots) 1 (l.block + l.i) ≡ pinned_from l.initial.pins l.slots 1 l.block
