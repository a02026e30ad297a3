-- Counts of faults. A count is below 2^64, and stays at 2^64 - 1. (This project's profile.)
use Rattle.std.specs.Prelude.{◌≡◌, ℕ, ◌-◌, ◌^◌, ◌<◌, ◌≤◌, ◌⊎◌}

-- The count rose: after the call it is greater than before, or it was 2^64 - 1 before. It never falls and never exceeds
-- 2^64 - 1.
-- why: the bound is part of it, so a clause that reports a failure also bounds its count.
abbrev pub Rose : ℕ → ℕ → Type 0
Rose before now = ((before < now) ⊎ (before ≡ 2 ^ 64 - 1)) × (before ≤ now) × (now ≤ 2 ^ 64 - 1)
