-- Counts of faults that rose by one, or over several calls.
use Rattle.std.proofs.Common.{ℕ, ◌-◌, ◌^◌, ◌≤◌, inl, inr, ⊎_elim, arith}
use Rattle.std.proofs.lemmas.Bool.{cases_lt}
use Rattle.gr_base.specs.Prelude.{Rose, one_more}

-- one more rises
pub rose_by_one : (count : ℕ) → count ≤ 2 ^ 64 - 1 → Rose count (one_more count)
rose_by_one count fits = (
  ⊎_elim (λ below. inl (omega (arith, below))) (λ full. inr (omega (arith, fits, full))) (cases_lt count (2 ^ 64 - 1)),
  omega (arith, fits),
  omega arith,
)

-- a count that rose after calls in which it didn't fall
pub rose_behind : (first before now : ℕ) → first ≤ before → before ≤ now → Rose before now → Rose first now
rose_behind first before now earlier later rose = (
  ⊎_elim
      (λ more. inl (omega (arith, earlier, more)))
      (λ full.
      ⊎_elim (λ below. inl (omega (arith, below, later))) (λ past. inr (omega (arith, past, earlier, full)))
      (cases_lt first before))
      rose.0,
  omega (arith, earlier, later),
  rose.2,
)

-- a count that rose before calls in which it didn't fall
pub rose_before : (before now last : ℕ) → Rose before now → now ≤ last → last ≤ 2 ^ 64 - 1 → Rose before last
rose_before before now last rose later most =
    (⊎_elim (λ more. inl (omega (arith, more, later))) inr rose.0, omega (arith, rose.1, later), most)
