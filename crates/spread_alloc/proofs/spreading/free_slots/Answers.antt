use Rattle.std.proofs.Common.{ap, sym, ◌∙◌}
use Rattle.spread_alloc.specs.Prelude.{free_slots, spread_slots}
use Rattle.spread_alloc.proofs.OneSpread.{passed, taken}
use Rattle.spread_alloc.proofs.spreading.free_slots.Goals.{then-is_free+in_ok-push, else-is_free}
use Rattle.spread_alloc.proofs.spreading.free_slots.Goals as goal

pub loop-slot-preserved : goal.loop-slot-preserved
loop-slot-preserved c =
    let pins = c.args.slots.now.pins in
    let slots = c.args.slots.now.plan.of_var.items in
    let all = free_slots pins slots c.args.variable in
    elim c.if-is_free.branch [
      | then-is_free+in_ok-push w ↦
          taken pins slots c.args.variable spread_slots c.loop-slot.slot-index _ c.loop-slot.free.items
          c.if-is_free.free.items all c.loop-slot-test.true (sym c.is_free.ensures ∙ w.if-is_free.true)
          (ap (λ v. v.items) w.free-is ∙ w.in_ok-push.ensures.items) c.loop-slot.invariant
      | else-is_free w ↦
          passed pins slots c.args.variable spread_slots c.loop-slot.slot-index _ c.loop-slot.free.items
          c.if-is_free.free.items all c.loop-slot-test.true (sym c.is_free.ensures ∙ w.if-is_free.false)
          (ap (λ v. v.items) w.free-is) c.loop-slot.invariant
    ]
