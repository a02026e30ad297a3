use Rattle.std.proofs.Common.{◌<◌, ◌∙◌, get_or, length, arith, length-set}
use Rattle.path_oram.proofs.Paired.{order_below, pairs_more}
use Rattle.path_oram.proofs.runs.paired.Goals as goal

pub index_mut-requires : goal.index_mut-requires
index_mut-requires c =
    let from = c.args.from.now in
    let within : c.loop-place.place < length from = omega (arith, c.loop-place-test.true) in
    omega (
      arith,
      order_below
          (length from) from c.requires.once c.loop-place.place within,
      c.loop-place.invariant.size,
      c.loop-place.pairs.ok.0,
    )

pub loop-place-preserved : goal.loop-place-preserved
loop-place-preserved c =
    let from = c.args.from.now in
    let to = c.args.to.now in
    let place = c.loop-place.place in
    let pairs = c.loop-place.pairs.items in
    let within : place < length from = omega (arith, c.loop-place-test.true) in
    record {
      size = length-set pairs (get_or from place 0) (get_or to place 0) ∙ c.loop-place.invariant.size;
      pairs = pairs_more from pairs
          (λ i. get_or to i 0) place c.requires.once c.loop-place.invariant.size within c.loop-place.invariant.pairs;
    }
