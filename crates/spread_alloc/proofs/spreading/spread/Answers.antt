use Rattle.std.proofs.Common.{true, sym, subst}
use Rattle.scratch_alloc.specs.Prelude.{plan_from}
use Rattle.spread_alloc.specs.Prelude.{PlanFits}
use Rattle.spread_alloc.proofs.FitsSpread.{turn_fits}
use Rattle.spread_alloc.proofs.spreading.spread.Goals as goal

pub spread_turn-requires-2-clause-fits : goal.spread_turn-requires-2-clause-fits
spread_turn-requires-2-clause-fits c =
    subst PlanFits (sym c.in_ok-spread_turn.ensures)
    (turn_fits c.block_words-size.result true (plan_from c.args.places.now c.args.slots.now) c.requires.fits)
