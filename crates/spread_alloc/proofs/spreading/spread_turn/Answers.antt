use Rattle.std.proofs.Common.{◌≡◌, ◌<◌, length, ap, sym, subst, ◌∙◌, arith}
use Rattle.scratch_alloc.specs.Prelude.{Plan, plan_from}
use Rattle.spread_alloc.specs.Prelude.{spread_one, PlanFits}
use Rattle.spread_alloc.proofs.FitsSpread.{one_fits, one_places}
use Rattle.spread_alloc.proofs.OneSpread.{each-next}
use Rattle.spread_alloc.proofs.spreading.spread_turn.Goals as goal

pub loop-variable-preserved : goal.loop-variable-preserved
loop-variable-preserved c =
    let size = c.args.size in
    let oblivious = c.args.oblivious in
    let v = c.loop-variable.variable in
    let plan = plan_from c.loop-variable.places c.loop-variable.slots in
    let after = plan_from c.spread_one.new.places c.spread_one.new.slots in
    let count = length c.args.places.now.of_var.items in
    let so_far = c.loop-variable.invariant in
    let one : after ≡ spread_one size oblivious plan v = c.in_ok-spread_one.ensures in
    let within : v < count = omega arith in
    let here : v < length plan.places = let same = so_far.2 in omega (arith, within, same) in (
      each-next size oblivious plan after v count within one ∙ so_far.0,
      subst PlanFits (sym one) (one_fits size oblivious plan v so_far.1 here),
      ap (λ (p : Plan). length p.places) one ∙ one_places size oblivious plan v ∙ so_far.2,
    )
