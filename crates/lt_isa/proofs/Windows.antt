-- The computed start of an access is the first cycle at which the window is open; and how long an access waits.
use Rattle.std.proofs.Common.{◌≡◌, ℕ, ◌+◌, ◌-◌, ◌*◌, ◌%◌, ◌/◌, ◌<◌, ◌≤◌, suc, false, cond, refl, sym, subst, ap, ◌∙◌, ◌⊎◌, inl, inr, ⊎_elim, arith, lt-ltb, le-ltb}
use Rattle.std.specs.Prelude.{IsTrue, ◌↔◌}
use Rattle.std.proofs.lemmas.Bool.{cases_lt, eqb-true, eq-eqb}
use Rattle.std.proofs.lemmas.Bool.Decides.{eqb_tells}
use Rattle.std.proofs.lemmas.Nat.{mod-mul-add, mod_below, div-add-mod'}
use Rattle.std.proofs.Math.Nat.{mul-le-mul_right, suc-mul}
use Rattle.lt_isa.specs.declared.profiles.Profile.{Profile}
use Rattle.gr_base.specs.Prelude.{Within}
use Rattle.lt_isa.specs.Prelude.{usual_profile, most_period, ProfileFits, IsOpen, IsAccessStart, HasUnitPeriod, access_start, has_unit_period, most_wait}

-- an access that is reached before the window closes in this period, and one that is reached later
start-early : (p : Profile) (cycle : ℕ) → cycle % p.period < p.closes
    → access_start p cycle ≡ cycle + (p.opens - cycle % p.period)
unfolding access_start
start-early p cycle early =
    ap (λ b. cycle + cond b (p.opens - cycle % p.period) ((p.opens + p.period) - cycle % p.period)) (lt-ltb _ _ early)

start-late : (p : Profile) (cycle : ℕ) → p.closes ≤ cycle % p.period
    → access_start p cycle ≡ cycle + ((p.opens + p.period) - cycle % p.period)
unfolding access_start
start-late p cycle late =
    ap (λ b. cycle + cond b (p.opens - cycle % p.period) ((p.opens + p.period) - cycle % p.period)) (le-ltb _ _ late)

-- an access never starts before the machine reaches it
pub access_start-least : (p : Profile) (cycle : ℕ) → cycle ≤ access_start p cycle
unfolding access_start
access_start-least p cycle = omega arith

-- a period ends no later than a later one begins
pub periods : (width q r : ℕ) → q < r → q * width + width ≤ r * width
periods width q r less = omega (arith, mul-le-mul_right {m = suc q} {n = r} width less, suc-mul q width)

module _ (p : Profile) (fits : ProfileFits p) where
  -- an access waits at most as many cycles as the window is closed in a period
  pub access_start-most : (cycle : ℕ) → access_start p cycle ≤ cycle + most_wait p
  access_start-most cycle =
      ⊎_elim
      (λ early. omega (arith, start-early p cycle early, fits.opens, fits.closes))
      (λ late. omega (arith, start-late p cycle late, fits.opens, fits.closes))
      (cases_lt (cycle % p.period) p.closes)

  open-into : (q into : ℕ) → p.opens ≤ into → into < p.closes → IsOpen p (q * p.period + into)
  open-into q into opened unclosed =
      let same = mod-mul-add q p.period into (omega (arith, fits.closes)) in
      record {
        opened = subst (λ n. p.opens ≤ n) (sym same) opened;
        unclosed = subst (λ n. n < p.closes) (sym same) unclosed;
      }

  -- a cycle is a number of whole periods and a part of one
  parts-of : (cycle : ℕ) → (cycle / p.period) * p.period + cycle % p.period ≡ cycle
  parts-of cycle = div-add-mod' cycle p.period

  part-below : (cycle : ℕ) → cycle % p.period < p.period
  part-below cycle = mod_below cycle p.period (omega (arith, fits.period))

  access_start-open : (cycle : ℕ) → IsOpen p (access_start p cycle)
  access_start-open cycle =
      let q = cycle / p.period in
      let into = cycle % p.period in
      ⊎_elim
      (λ early.
      ⊎_elim
      (λ before.
      subst (IsOpen p)
      (omega (arith, start-early p cycle early, parts-of cycle))
      (open-into q p.opens (omega arith) (omega (arith, fits.closes))))
      (λ opened.
      subst (IsOpen p) (omega (arith, start-early p cycle early, parts-of cycle)) (open-into q into opened early))
      (cases_lt into p.opens))
      (λ late.
      subst (IsOpen p)
      (omega (arith, start-late p cycle late, parts-of cycle, part-below cycle, suc-mul q p.period))
      (open-into (suc q) p.opens (omega arith) (omega (arith, fits.closes))))
      (cases_lt into p.closes)

  access_start-first : (cycle other : ℕ) → cycle ≤ other → IsOpen p other → access_start p cycle ≤ other
  access_start-first cycle other le inside =
      let q = cycle / p.period in
      let r = other / p.period in
      ⊎_elim
      (λ earlier.
      absurd (omega (arith, periods p.period r q earlier, parts-of cycle, parts-of other, part-below other)))
      (λ no_earlier.
      ⊎_elim
      (λ later.
      ⊎_elim
      (λ early. omega (
        arith,
        start-early p cycle early,
        periods p.period q r later,
        parts-of cycle,
        parts-of other,
        inside.opened,
        fits.opens,
        part-below cycle,
      ))
      (λ late. omega (
        arith,
        start-late p cycle late,
        periods p.period q r later,
        parts-of cycle,
        parts-of other,
        inside.opened,
        part-below cycle,
      ))
      (cases_lt (cycle % p.period) p.closes))
      (λ no_later.
      let same : q * p.period ≡ r * p.period = ap (λ n. n * p.period) (omega arith) in
      ⊎_elim
      (λ early. omega (arith, start-early p cycle early, same, parts-of cycle, parts-of other, inside.opened))
      (λ late. absurd (omega (arith, same, parts-of cycle, parts-of other, inside.unclosed)))
      (cases_lt (cycle % p.period) p.closes))
      (cases_lt q r))
      (cases_lt r q)

  -- the computing form finds the first cycle of the window
  pub access_start-is : (cycle : ℕ) → IsAccessStart p cycle (access_start p cycle)
  access_start-is cycle = record {
    not_before = access_start-least p cycle;
    in_window = access_start-open cycle;
    least = access_start-first cycle;
  }

  -- the computing form finds the only such cycle
  pub access_start-only : (cycle start : ℕ) → IsAccessStart p cycle start → start ≡ access_start p cycle
  access_start-only cycle start is =
      omega (
        arith,
        is.least (access_start p cycle) (access_start-least p cycle) (access_start-open cycle),
        access_start-first cycle start is.not_before is.in_window,
      )

-- no access waits if memory is always open
pub access_start-at_once : (p : Profile) → HasUnitPeriod p → (cycle : ℕ) → access_start p cycle ≡ cycle
access_start-at_once p whole cycle =
    let below : cycle % p.period < p.period = mod_below cycle p.period (omega (arith, whole.period)) in
    omega (arith, start-early p cycle (omega (arith, below, whole.period, whole.closes)), whole.opens)

-- among profiles in range, those with a period of one cycle are always open
pub always_open : (p : Profile) → ProfileFits p → IsTrue (has_unit_period p) ↔ HasUnitPeriod p
always_open p fits = (to, λ whole. eq-eqb _ _ whole.period)
  where
    to : IsTrue (has_unit_period p) → HasUnitPeriod p
    to is =
        let one : p.period ≡ 1 = eqb-true _ _ is in
        record {
          period = one;
          opens = omega (arith, one, fits.opens);
          closes = omega (arith, one, fits.closes);
        }

-- the usual profile is always open
pub usual_open : (block_log : ℕ) → HasUnitPeriod (usual_profile block_log)
usual_open block_log = record { period = refl; opens = refl; closes = refl }

-- a profile's memory is always open, or its period is longer
pub by_window : (p : Profile) → ProfileFits p → HasUnitPeriod p ⊎ (2 ≤ p.period)
by_window p fits =
    ⊎_elim
    (λ longer. inr longer)
    (λ short. inl ((always_open p fits).0 (eq-eqb _ _ (omega (arith, short, fits.period)))))
    (cases_lt 1 p.period)

-- a period of two or more cycles isn't the unit period
pub windowed : (p : Profile) → 2 ≤ p.period → has_unit_period p ≡ false
windowed p longer =
    ⊎_elim (λ same. absurd (omega (arith, same.1, longer))) (λ other. other.0) (eqb_tells p.period 1)

-- the profile with memory that is always open
abbrev pub opened : Profile → Profile
opened p = record p { period = 1; opens = 0; closes = 1 }

-- a profile that is always open is equal to its form with memory that is always open
pub opened-is : (p : Profile) → HasUnitPeriod p → opened p ≡ p
opened-is p whole =
    ap (λ n. record p { period = n; opens = 0; closes = 1 }) (sym whole.period)
    ∙ ap (λ n. record p { opens = n; closes = 1 }) (sym whole.opens)
    ∙ ap (λ n. record p { closes = n }) (sym whole.closes)

-- a profile that differs from another one only in its window, which is in range
pub record IsWindowed (before p : Profile) : Type 0 where
  pub is : p ≡ record before { period = p.period; opens = p.opens; closes = p.closes }
  pub period : Within 2 most_period p.period
  pub opens : p.opens < p.period
  pub closes : Within (p.opens + 1) p.period p.closes

-- a profile in range with a window is in range
pub windowed-fits : (before p : Profile) → ProfileFits before → IsWindowed before p → ProfileFits p
windowed-fits before p fits window = subst ProfileFits (sym window.is) (record {
  block_log = fits.block_log;
  alu = fits.alu;
  mul = fits.mul;
  word = fits.word;
  taken = fits.taken;
  period = (omega (arith, window.period), window.period.1);
  opens = window.opens;
  closes = window.closes;
})
