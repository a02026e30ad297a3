use Rattle.std.proofs.Common.{◌≡◌, ◌<◌, ℕ, true}
use Rattle.trace_patterns.specs.Prelude.{slot_fits}
use Rattle.trace_patterns.proofs.known.Known.slots_fit.Given as goal

abbrev pub invariant-loop-slot : goal.invariant-loop-slot
invariant-loop-slot l = (q : ℕ) → q < l.slot → slot_fits l.self l.claimed q ≡ true
