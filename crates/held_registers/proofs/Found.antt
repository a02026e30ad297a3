-- The register of a scalar or a number holds it, and is one of those that hold something for the whole run.
use Rattle.std.proofs.Common.{◌≡◌, ℕ, ◌+◌, ◌-◌, ◌≤◌, Bool, true, false, ℤ, List, Option, Some, None, get_or, refl, subst, ap, ◌∙◌, arith}
use Rattle.std.specs.Prelude.{nat_lt, if◌then◌else◌}
use Rattle.std.specs.List.{slice_get, position}
use Rattle.std.specs.Option.{option_map}
use Rattle.std.proofs.lemmas.Bool.{eqb-true, ltb-false, le-ltb}
use Rattle.std.proofs.lemmas.Bool.Decides.{Decides-int_eq}
use Rattle.std.proofs.lemmas.List.Quantifiers.{position-Some}
use Rattle.std.proofs.lemmas.Option.{slice_get-get_or}
use Rattle.held_registers.specs.declared.registers.Held.{Held}
use Rattle.held_registers.specs.declared.registers.Held.TheVariants.{SecretZero, Number, Scalar}
use Rattle.held_registers.specs.Prelude.{held_at, is_number, is_scalar, register_of_number, register_of_scalar}

-- registers below 19 hold nothing for the whole run
pub held-high : (held : List Held) (r : ℕ) (h : Held) → held_at held r ≡ Some h → 19 ≤ r
held-high held r h e = by (nat_lt r 19) refl e
  where
    by : (low : Bool) → nat_lt r 19 ≡ low → (if low then None else slice_get held (r - 19)) ≡ Some h → 19 ≤ r
    by true is e = absurd (let f : ◌≡◌ {A = Option Held} None (Some h) = e in cc)
    by false is e = ltb-false r 19 is

-- what is at a place of the list is in its register
held-placed : (held : List Held) (j : ℕ) (h : Held) → slice_get held j ≡ Some h → held_at held (j + 19) ≡ Some h
held-placed held j h e =
    let low : nat_lt (j + 19) 19 ≡ false = le-ltb (j + 19) 19 (omega arith) in
    let place : j + 19 - 19 ≡ j = omega arith in
    ap (λ (b : Bool). if b then None else slice_get held (j + 19 - 19)) low ∙ ap (slice_get held) place ∙ e

-- the first place whose content passes a test that only one content passes
held-found : (held : List Held) (is : Held → Bool) (h : Held) → ((g : Held) → is g ≡ true → g ≡ h) → (r : ℕ)
    → option_map (λ j. j + 19) (position is held) ≡ Some r → held_at held r ≡ Some h
held-found held is h only r e = by (position is held) refl e
  where
    by : (place : Option ℕ) → position is held ≡ place → option_map (λ j. j + 19) place ≡ Some r
        → held_at held r ≡ Some h
    by None at e = absurd (let f : ◌≡◌ {A = Option ℕ} None (Some r) = e in cc)
    by (Some j) at e =
        let here : j + 19 ≡ r = let f : ◌≡◌ {A = Option ℕ} (Some (j + 19)) (Some r) = e in cc in
        let found = position-Some is held j SecretZero at in
        let one : get_or held j SecretZero ≡ h = only (get_or held j SecretZero) found.1 in
        subst (λ q. held_at held q ≡ Some h) here
        (held-placed held j h (slice_get-get_or held j SecretZero found.0 ∙ ap Some one))

is-scalar : (n : ℕ) (h : Held) → is_scalar n h ≡ true → h ≡ Scalar n
is-scalar n SecretZero e = absurd (let f : ◌≡◌ {A = Bool} false true = e in cc)
is-scalar n (Number z) e = absurd (let f : ◌≡◌ {A = Bool} false true = e in cc)
is-scalar n (Scalar m) e = ap Scalar (eqb-true m n e)

-- the register that holds a scalar holds it
pub scalar-held : (held : List Held) (n r : ℕ) → register_of_scalar held n ≡ Some r → held_at held r ≡ Some (Scalar n)
scalar-held held n r e = held-found held (λ h. is_scalar n h) (Scalar n) (is-scalar n) r e

is-number : (z : ℤ) (h : Held) → is_number z h ≡ true → h ≡ Number z
is-number z SecretZero e = absurd (let f : ◌≡◌ {A = Bool} false true = e in cc)
is-number z (Number y) e = ap Number ((Decides-int_eq y z).0 e)
is-number z (Scalar m) e = absurd (let f : ◌≡◌ {A = Bool} false true = e in cc)

-- and so does that of a number
pub number-held : (held : List Held) (z : ℤ) (r : ℕ) → register_of_number held z ≡ Some r
    → held_at held r ≡ Some (Number z)
number-held held z r e = held-found held (λ h. is_number z h) (Number z) (is-number z) r e
