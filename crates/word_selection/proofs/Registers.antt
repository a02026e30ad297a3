-- Registers of the machine that steps don't name.
use Rattle.std.proofs.Common.{◌≢◌, ℕ, ◌≤◌, arith, inl, inr}
use Rattle.strength_reduction.specs.Prelude.{numbered}
use Rattle.strength_reduction.proofs.Registers.{numbered-from, numbered-to}
use Rattle.word_selection.specs.Prelude.{IsOutside}

pub outside-other : (base most to r : ℕ) → to ≤ most → IsOutside base most r → r ≢ numbered base to
outside-other base most to r low (inl under) same = omega (arith, numbered-from base to, under, same)
outside-other base most to r low (inr over) same = omega (arith, numbered-to base most to low, over, same)
