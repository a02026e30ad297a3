-- One word for a number that may not be known.
use Rattle.std.proofs.Common.{ℕ, ◌<◌, ◌≤◌, ◌-◌, ◌^◌, Option, Some, None, arith}
use Rattle.std.specs.Prelude.{IfSome}
use Rattle.region_walk.specs.Prelude.{NumberFits}

-- numbers below a count fit in a word
pub held-small : (count : ℕ) (number : Option ℕ) → count ≤ 2 ^ 32 - 1 → NumberFits count number
    → IfSome number (λ n. n < 2 ^ 32 - 1)
held-small count None le h = tt
held-small count (Some n) le h = omega arith
