use Rattle.std.proofs.Common.{◌<◌, All, take, sym, subst, ◌∙◌}
use Rattle.scratch_alloc.specs.Prelude.{plan_from}
use Rattle.spread_alloc.proofs.OneSpread.{chosen-few}
use Rattle.spread_alloc.proofs.spreading.spread_one.Goals as goal

pub spread_over-requires-clause-slots : goal.spread_over-requires-clause-slots
spread_over-requires-clause-slots c =
    let blocks = c.blocks_for-blocks.result in
    subst (λ slots. All (λ s. s < 8) (take blocks slots))
    (sym (c.as_slice-then-has_room.ensures.value ∙ c.in_ok-free.ensures))
    (chosen-few (plan_from c.args.places.now c.args.slots.now) c.args.variable blocks)
