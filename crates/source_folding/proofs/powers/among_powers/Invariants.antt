use Rattle.std.proofs.Common.{◌≡◌, ℕ, ◌<◌, ◌^◌, false}
use Rattle.std.specs.Prelude.{◌==◌}
use Rattle.source_folding.proofs.powers.among_powers.Given as goal

abbrev pub invariant-loop-k : goal.invariant-loop-k
invariant-loop-k l = (j : ℕ) → j < l.k → (2 ^ j == l.number) ≡ false
