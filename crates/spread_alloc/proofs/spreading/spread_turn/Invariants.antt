use Rattle.std.proofs.Common.{◌≡◌, ◌-◌, length}
use Rattle.std.specs.List.{range_with_len}
use Rattle.scratch_alloc.specs.Prelude.{plan_from}
use Rattle.spread_alloc.specs.Prelude.{spread_each, spread_turn, PlanFits}
use Rattle.spread_alloc.proofs.spreading.spread_turn.Given as goal

abbrev pub invariant-loop-variable : goal.invariant-loop-variable
invariant-loop-variable l =
    (spread_each l.size l.oblivious (plan_from l.places l.slots)
    (range_with_len l.variable (length l.initial.places.of_var.items - l.variable))
    ≡ spread_turn l.size l.oblivious (plan_from l.initial.places l.initial.slots))
    × PlanFits (plan_from l.places l.slots)
    × (length l.places.of_var.items ≡ length l.initial.places.of_var.items)
