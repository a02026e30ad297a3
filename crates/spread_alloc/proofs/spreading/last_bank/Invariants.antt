use Rattle.std.proofs.Common.{◌≡◌, ◌≤◌, drop}
use Rattle.std.specs.Prelude.{max}
use Rattle.spread_alloc.specs.Prelude.{last_bank}
use Rattle.spread_alloc.proofs.spreading.last_bank.Given as goal

abbrev pub invariant-loop-place : goal.invariant-loop-place
invariant-loop-place l = (max l.last (last_bank (drop l.place-index l.places)) ≡ last_bank l.places) × (1 ≤ l.last)
