use Rattle.std.proofs.Common.{◌≡◌, get_or, sym, ap, ◌∙◌, ⊎_elim, arith}
use Rattle.std.proofs.lemmas.Bool.{cases_lt}
use Rattle.path_oram.specs.Prelude.{blocks_in}
use Rattle.path_oram.proofs.Slots.{block_at}
use Rattle.path_oram.proofs.scan.leaf_among.Goals as goal

pub loop-place-preserved : goal.loop-place-preserved
loop-place-preserved c k d less =
    ⊎_elim
    (λ early. c.loop-place.invariant k d early)
    (λ late same.
    let is : k ≡ c.loop-place.place = omega (arith, less, late) in
    c.if-slot-block.false
    (block_at c.args.slots.now c.loop-place.place d
    (omega (arith, c.loop-place-test.true, c.loop-place.auto.place-end))
    ∙ ap (λ n. get_or (blocks_in c.args.slots.now) n d) (sym is) ∙ same))
    (cases_lt k c.loop-place.place)
