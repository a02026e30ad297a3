use Rattle.std.proofs.Common.{◌≡◌, ◌≢◌, ◌<◌, ℕ, Some, None}
use Rattle.std.specs.Prelude.{slice_get}
use Rattle.bus_arbiter.specs.Prelude.{Core}
use Rattle.bus_arbiter.proofs.bus.Bus.is_alone.Given as goal

abbrev pub invariant-loop-other : goal.invariant-loop-other
invariant-loop-other g l =
    (k : ℕ) (c : Core g.row.B.Denot) → k < l.other → k ≢ l.core → slice_get l.self.cores k ≡ Some c → c.halted ≢ None
