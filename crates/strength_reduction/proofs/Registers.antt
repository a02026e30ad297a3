-- Registers that steps name, counted from a register of the machine: they are different, and from 0 to `most`.
use Rattle.std.proofs.Common.{◌≡◌, ◌≢◌, ℕ, ◌+◌, ◌<◌, ◌≤◌, Bool, true, false, cond, eqb, refl, sym, ap, ◌∙◌, arith}
use Rattle.std.proofs.lemmas.Bool.{eqb-true, false≢true, eq-eqb}
use Rattle.strength_reduction.specs.Prelude.{numbered, replaced}
use Rattle.strength_reduction.proofs.Codes.{numbered_is}

pub numbered-low : (base most i : ℕ) → i ≤ most → base + most < 32 → numbered base i < 32
numbered-low base most i low room = omega (arith, numbered_is base i)

pub numbered-from : (base i : ℕ) → base ≤ numbered base i
numbered-from base i = omega (arith, numbered_is base i)

pub numbered-to : (base most i : ℕ) → i ≤ most → numbered base i ≤ base + most
numbered-to base most i low = omega (arith, numbered_is base i)

numbered-same : (base i j : ℕ) → numbered base i ≡ numbered base j → i ≡ j
numbered-same base i j same = omega (arith, numbered_is base i, numbered_is base j)

-- What registers have after one was set, if the other registers are as before. A register has a value of any kind.
pub set-own : {A : Type 0} (base most to : ℕ) (value : A) (before after : ℕ → A) (own : ℕ → A)
    → after (numbered base to) ≡ value
    → ((r : ℕ) → r ≢ numbered base to → after r ≡ before r)
    → ((i : ℕ) → i ≤ most → before (numbered base i) ≡ own i)
    → (i : ℕ) → i ≤ most → after (numbered base i) ≡ replaced own to value i
set-own {A} base most to value before after own is others held i low = cases (eqb i to) refl
  where
    cases : (b : Bool) → eqb i to ≡ b → after (numbered base i) ≡ cond b value (own i)
    cases true e = ap (λ j. after (numbered base j)) (eqb-true i to e) ∙ is
    cases false e =
        others (numbered base i)
        (λ same. false≢true (sym e ∙ eq-eqb i to (numbered-same base i to same)))
        ∙ held i low
