use Rattle.std.proofs.Common.{◌≡◌, false, sym, arith}
use Rattle.trace_patterns.specs.Prelude.{slot_fits, slots_fit}
use Rattle.trace_patterns.proofs.Ranges.{all_in, fails_at}
use Rattle.trace_patterns.proofs.known.Known.slots_fit.Goals as goal

pub returns-then-not-bank_fits : goal.returns-then-not-bank_fits
unfolding slots_fit
returns-then-not-bank_fits c =
    let k = c.args.self.now in
    let claimed = c.args.claimed.now in
    let slot = c.loop-slot.slot in
    let fails : slot_fits k claimed slot ≡ false = grind arith in
    sym (fails_at (slot_fits k claimed) 0 8 slot (omega arith) (omega arith) fails)

pub returns : goal.returns
unfolding slots_fit
returns c =
    sym (all_in (slot_fits c.args.self.now c.args.claimed.now) 0 8
    (λ q low high. c.loop-slot.invariant q (omega arith)))
