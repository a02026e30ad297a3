-- Code at a place, in parts.
use Rattle.std.proofs.Common.{◌≡◌, ℕ, ◌+◌, zero, suc, List, [], ◌∷◌, ◌++◌, length, Some, refl, ap, ◌∙◌, arith}
use Rattle.std.specs.Prelude.{slice_get}
use Rattle.std.proofs.lemmas.Option.{none-some}
use Rattle.lt_isa.specs.declared.instructions.Instr.{Instr}
use Rattle.lt_isa.specs.Prelude.{Parts}
use Rattle.stretches.specs.Prelude.{StandsAt, greatest_costs}

slice_get-append_left : {X : Type 0} (xs ys : List X) (k : ℕ) (x : X)
    → slice_get xs k ≡ Some x → slice_get (xs ++ ys) k ≡ Some x
slice_get-append_left [] ys k x is = absurd (none-some x is)
slice_get-append_left (y ∷ xs) ys zero x is = is
slice_get-append_left (y ∷ xs) ys (suc k) x is = slice_get-append_left xs ys k x is

slice_get-append_right : {X : Type 0} (xs ys : List X) (k : ℕ) → slice_get (xs ++ ys) (length xs + k) ≡ slice_get ys k
slice_get-append_right [] ys k = ap (slice_get ys) (omega arith)
slice_get-append_right (x ∷ xs) ys k =
    let next : suc (length xs) + k ≡ suc (length xs + k) = omega arith in
    ap (slice_get (x ∷ (xs ++ ys))) next ∙ slice_get-append_right xs ys k

-- the first part of some code is at its place
pub standing-first : {o : Parts} {p : ℕ} (xs ys : List Instr) → StandsAt o p (xs ++ ys) → StandsAt o p xs
standing-first xs ys at = record { each = λ k i is. at.each k i (slice_get-append_left xs ys k i is) }

-- the second part is after the first
pub standing-rest : {o : Parts} {p : ℕ} (xs ys : List Instr) → StandsAt o p (xs ++ ys) → StandsAt o (p + length xs) ys
standing-rest {o = o} {p = p} xs ys at = record {
  each = λ k i is.
      let place : p + length xs + k ≡ p + (length xs + k) = omega arith in
      ap (slice_get o.code) place ∙ at.each (length xs + k) i (slice_get-append_right xs ys k ∙ is);
}

-- the first instruction is at the place
pub standing-head : {o : Parts} {p : ℕ} (i : Instr) (code : List Instr)
    → StandsAt o p (i ∷ code) → slice_get o.code p ≡ Some i
standing-head {o = o} {p = p} i code at =
    let place : p ≡ p + 0 = omega arith in ap (slice_get o.code) place ∙ at.each 0 i refl

-- the instructions after the first are at the next place
pub standing-tail : {o : Parts} {p : ℕ} (i : Instr) (code : List Instr)
    → StandsAt o p (i ∷ code) → StandsAt o (p + 1) code
standing-tail {o = o} {p = p} i code at = record {
  each = λ k j is.
      let place : p + 1 + k ≡ p + suc k = omega arith in ap (slice_get o.code) place ∙ at.each (suc k) j is;
}

-- the sum of the costs of two parts
pub greatest_costs-append : (o : Parts) (xs ys : List Instr)
    → greatest_costs o (xs ++ ys) ≡ greatest_costs o xs + greatest_costs o ys
greatest_costs-append o [] ys = omega arith
greatest_costs-append o (i ∷ xs) ys = omega (arith, greatest_costs-append o xs ys)

-- the whole code of an object is at place 0
pub standing-whole : (o : Parts) (code : List Instr) → o.code ≡ code → StandsAt o 0 code
standing-whole o code is = record {
  each = λ k i at.
      let place : 0 + k ≡ k = omega arith in
      ap (slice_get o.code) place ∙ ap (λ l. slice_get l k) is ∙ at;
}
