use Rattle.std.proofs.Common.{◌+◌, ap, sym, ◌∙◌, below_more, arith}
use Rattle.std.specs.Option.{option_map}
use Rattle.lt_checker.specs.Prelude.{Here, arrival_at, effect_from, refusal_in, refused}
use Rattle.lt_checker.proofs.Reached.{reached_at-zero, reached_at-next}
use Rattle.lt_checker.proofs.places.lowest_refusal.Goals as goal

pub loop-place-init : goal.loop-place-init
loop-place-init c = record {
  reached = ap Here c.start-known.ensures ∙ sym (reached_at-zero c.args.object.now);
  none_below = λ q h. absurd (omega arith);
}

pub loop-place-preserved : goal.loop-place-preserved
loop-place-preserved c =
    let o = c.args.object.now in
    let p = c.loop-place.place in
    let after = c.effect_from.new.known in
    let effect = c.in-Ok.ensures ∙ ap (effect_from o p) c.loop-place.invariant.reached in
    record {
      reached = c.arrival-arrival.ensures after ∙ ap (arrival_at (p + 1)) effect ∙ sym (reached_at-next o p);
      none_below = below_more _ _ c.loop-place.invariant.none_below
          (sym (ap (refusal_in p) effect) ∙ sym (c.refusal.ensures after) ∙ ap (option_map refused) c.in_default.is);
    }
