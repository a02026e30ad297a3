use Rattle.std.proofs.Common.{◌≡◌, ◌≢◌, ◌<◌, ℕ, Some, None}
use Rattle.std.specs.Prelude.{slice_get}
use Rattle.bus_arbiter.specs.Prelude.{Core}
use Rattle.bus_arbiter.proofs.bus.Bus.first_live.Given as goal

abbrev pub invariant-loop-core : goal.invariant-loop-core
invariant-loop-core g l =
    (k : ℕ) (c : Core g.row.B.Denot) → k < l.core → slice_get l.self.cores k ≡ Some c → c.halted ≢ None
