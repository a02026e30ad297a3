use Rattle.std.proofs.Common.{◌≡◌, ◌++◌, drop}
use Rattle.spread_alloc.specs.Prelude.{free_among, free_slots, spread_slots}
use Rattle.spread_alloc.proofs.spreading.free_slots.Given as goal

abbrev pub invariant-loop-slot : goal.invariant-loop-slot
invariant-loop-slot l =
    l.free.items ++ free_among l.slots.pins l.slots.plan.of_var.items l.variable (drop l.slot-index spread_slots)
    ≡ free_slots l.slots.pins l.slots.plan.of_var.items l.variable
