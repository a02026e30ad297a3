use Rattle.std.proofs.Common.{◌≡◌, ◌++◌, take, drop}
use Rattle.scratch_alloc.specs.Prelude.{slots_behind, slots_of}
use Rattle.scratch_alloc.proofs.plans.slots.Given as goal

abbrev pub invariant-loop-i : goal.invariant-loop-i
invariant-loop-i l = l.of_var.items ++ slots_behind (take l.i l.places) (drop l.i l.places) ≡ slots_of l.places
