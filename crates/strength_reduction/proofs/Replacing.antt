-- The steps that replace an operation with a constant do what it does.
use Rattle.std.proofs.Common.{◌≡◌, ℕ, ◌+◌, ◌^◌, ◌≤◌, Bool, true, false, ◌&&◌, cond, eqb, leb, ℤ, pos, negsuc, List, [], ◌∷◌, length, option_map, Some, None, refl, sym, ap, subst, arith, pow_mono}
use Rattle.std.proofs.lemmas.Bool.{eqb-true, lt-ltb, ltb-true}
use Rattle.std.proofs.lemmas.Bool.Decides.{nat_tests}
use Rattle.gr_word.specs.declared.operations.Op.{Op}
use Rattle.gr_word.specs.declared.operations.Op.TheVariants.{Mul, Div, Rem, Remu}
use Rattle.gr_word.specs.Prelude.{IsWord, unsigned_of}
use Rattle.strength_reduction.specs.Prelude.{Step, Constant, Compute, Replaces, left_by, reads_known, replaced, set_bits, product_steps, quotient_steps, remainder_steps, mask_steps, power_of, is_word, steps_by_bits, steps_by_number}
use Rattle.strength_reduction.proofs.SetBits.{power_sum, set_bits-low, set_bits-sum}
use Rattle.strength_reduction.proofs.ProductResults.{product-result}
use Rattle.strength_reduction.proofs.QuotientResults.{quotient-result, remainder-result, mask-result}
use Rattle.strength_reduction.proofs.Shapes as shape

product-replaces : (number : ℤ)
    → IsWord number → length (set_bits number) ≤ 8 → Replaces Mul number (product_steps (set_bits number))
product-replaces number fits few = record {
  result = λ words value. product-result number words fits value;
  label = shape.product-label (set_bits number);
  reads = shape.product-reads (set_bits number);
  fits = shape.product-fits (set_bits number) (set_bits-low number);
  quick = shape.product-quick (set_bits number);
  few = shape.product-few (set_bits number) few;
}

quotient-replaces : (k : ℕ) → k ≤ 62 → Replaces Div (pos (2 ^ k)) (quotient_steps k)
quotient-replaces k below = record {
  result = λ words value. quotient-result k words below value;
  label = shape.quotient-label k;
  reads = shape.quotient-reads k;
  fits = shape.quotient-fits k below;
  quick = shape.quotient-quick k;
  few = shape.quotient-few k;
}

remainder-replaces : (k : ℕ) → k ≤ 62 → Replaces Rem (pos (2 ^ k)) (remainder_steps k)
remainder-replaces k below = record {
  result = λ words value. remainder-result k words below value;
  label = shape.remainder-label k;
  reads = shape.remainder-reads k;
  fits = shape.remainder-fits k below;
  quick = shape.remainder-quick k;
  few = shape.remainder-few k;
}

mask-replaces : (k : ℕ) → k ≤ 62 → Replaces Remu (pos (2 ^ k)) (mask_steps k)
mask-replaces k below = record {
  result = λ words value. mask-result k words below;
  label = shape.mask-label k;
  reads = shape.mask-reads k;
  fits = shape.mask-fits k below;
  quick = shape.mask-quick k;
  few = shape.mask-few k;
}

-- a word with one bit, which isn't the sign, is a power of two
one-bit : (number : ℤ) (k : ℕ) → IsWord number → k ≤ 62 → unsigned_of number ≡ 2 ^ k + 0 → pos (2 ^ k) ≡ number
one-bit (pos n) k fits below e = ap pos (omega arith)
one-bit (negsuc n) k fits below e =
    let most : 2 ^ k ≤ 2 ^ 62 = pow_mono {i = k} {j = 62} below in
    absurd (omega (arith, fits.sfits))

-- steps for a power of two replace an operation by it
powers : (op : Op) (number : ℤ) (steps : ℕ → List Step) (found : List Step) (bits : List ℕ)
    → IsWord number
    → ((k : ℕ) → k ≤ 62 → Replaces op (pos (2 ^ k)) (steps k))
    → power_sum bits ≡ unsigned_of number
    → option_map steps (power_of bits) ≡ Some found
    → Replaces op number found
powers op number steps found [] fits replaces sum e = absurd (cc)
powers op number steps found (k ∷ []) fits replaces sum e = cases (leb k 62) refl e
  where
    cases : (b : Bool)
        → leb k 62 ≡ b
        → option_map steps (cond b (Some k) None) ≡ Some found
        → Replaces op number found
    cases true test same =
        let below : k ≤ 62 = grind (arith, nat_tests) in
        let list : steps k ≡ found = cc in
        subst (λ (xs : List Step). Replaces op number xs) list
        (subst (λ (z : ℤ). Replaces op z (steps k)) (one-bit number k fits below (sym sum)) (replaces k below))
    cases false test same = absurd (cc)
powers op number steps found (k ∷ l ∷ bits) fits replaces sum e = absurd (cc)

-- the same for any operation
by-bits : (op : Op) (number : ℤ) (steps : List Step)
    → IsWord number → steps_by_bits op (set_bits number) ≡ Some steps → Replaces op number steps
by-bits Mul number steps fits e = cases (leb (length (set_bits number)) 8) refl e
  where
    cases : (b : Bool)
        → leb (length (set_bits number)) 8 ≡ b
        → cond b (Some (product_steps (set_bits number))) None ≡ Some steps
        → Replaces Mul number steps
    cases true test same =
        let few : length (set_bits number) ≤ 8 = grind (arith, nat_tests) in
        let list : product_steps (set_bits number) ≡ steps = cc in
        subst (λ (xs : List Step). Replaces Mul number xs) list (product-replaces number fits few)
    cases false test same = absurd (cc)
by-bits Div number steps fits e =
    powers Div number quotient_steps steps (set_bits number) fits quotient-replaces (set_bits-sum number fits) e
by-bits Rem number steps fits e =
    powers Rem number remainder_steps steps (set_bits number) fits remainder-replaces (set_bits-sum number fits) e
by-bits Remu number steps fits e =
    powers Remu number mask_steps steps (set_bits number) fits mask-replaces (set_bits-sum number fits) e
by-bits _ number steps fits e = absurd (cc)

-- the test whether a number is a word
word-tested : (number : ℤ) → is_word number ≡ true → IsWord number
word-tested (pos n) test = record { sfits = ltb-true n (2 ^ 63) test }
word-tested (negsuc n) test = record { sfits = ltb-true n (2 ^ 63) test }

pub tested-word : (number : ℤ) → IsWord number → is_word number ≡ true
tested-word (pos n) fits = lt-ltb n (2 ^ 63) fits.sfits
tested-word (negsuc n) fits = lt-ltb n (2 ^ 63) fits.sfits

pub steps-of_word : (op : Op) (number : ℤ)
    → IsWord number → steps_by_number op number ≡ steps_by_bits op (set_bits number)
unfolding steps_by_number
steps-of_word op number fits = ap (λ b. cond b (steps_by_bits op (set_bits number)) None) (tested-word number fits)

pub steps-replace : (op : Op) (number : ℤ) (steps : List Step)
    → steps_by_number op number ≡ Some steps → Replaces op number steps
unfolding steps_by_number
steps-replace op number steps e = cases (is_word number) refl e
  where
    cases : (b : Bool)
        → is_word number ≡ b
        → cond b (steps_by_bits op (set_bits number)) None ≡ Some steps
        → Replaces op number steps
    cases true test found = by-bits op number steps (word-tested number test) found
    cases false test found = absurd (cc)

-- ---- the result depends only on the value

-- registers that agree as far as they are known
abbrev AreAlike : {A : Type 0} → (ℕ → Bool) → (ℕ → A) → (ℕ → A) → Type 0
AreAlike known one other = (i : ℕ) → known i ≡ true → one i ≡ other i

replaced-alike : {A : Type 0} (known : ℕ → Bool) (one other : ℕ → A) (to : ℕ) (a b : A)
    → AreAlike known one other
    → a ≡ b
    → AreAlike (replaced known to true) (replaced one to a) (replaced other to b)
replaced-alike {A} known one other to a b alike same i = cases (eqb i to)
  where
    cases : (c : Bool) → cond c true (known i) ≡ true → cond c a (one i) ≡ cond c b (other i)
    cases true e = same
    cases false e = alike i e

both : (a b c : Bool) → ((a && b) && c) ≡ true → (a ≡ true) × (b ≡ true) × (c ≡ true)
both true true c e = (refl, refl, e)
both true false c e = absurd (cc)
both false b c e = absurd (cc)

still-known : (known : ℕ → Bool) (to : ℕ) → known 0 ≡ true → replaced known to true 0 ≡ true
still-known known to e = cases (eqb 0 to)
  where
    cases : (c : Bool) → cond c true (known 0) ≡ true
    cases true = refl
    cases false = e

operated : {A : Type 0} (operation : A → A → A) (a b c d : A) → a ≡ b → c ≡ d → operation a c ≡ operation b d
operated operation a b c d p q = cc

alike-after : {A : Type 0} (constant : ℤ → A) (operation : Op → A → A → A)
    (steps : List Step) (known : ℕ → Bool) (one other : ℕ → A)
    → reads_known known steps ≡ true
    → known 0 ≡ true
    → AreAlike known one other
    → left_by constant operation steps one 0 ≡ left_by constant operation steps other 0
alike-after constant operation [] known one other reads first alike = alike 0 first
alike-after constant operation (Constant to value ∷ steps) known one other reads first alike =
    alike-after constant operation steps (replaced known to true) _ _ reads (still-known known to first)
    (replaced-alike known one other to (constant value) (constant value) alike refl)
alike-after constant operation (Compute op to left right ∷ steps) known one other reads first alike =
    let all = both (known left) (known right) (reads_known (replaced known to true) steps) reads in
    alike-after constant operation steps (replaced known to true) _ _ all.2 (still-known known to first)
    (replaced-alike known one other to (operation op (one left) (one right)) (operation op (other left) (other right))
    alike (operated (operation op) _ _ _ _ (alike left all.0) (alike right all.1)))

-- steps that read only the value leave a result that depends only on it, for registers of any kind
pub result-alike : {A : Type 0} (constant : ℤ → A) (operation : Op → A → A → A) (steps : List Step) (one other : ℕ → A)
    → reads_known (λ i. eqb i 0) steps ≡ true
    → one 0 ≡ other 0
    → left_by constant operation steps one 0 ≡ left_by constant operation steps other 0
result-alike constant operation steps one other reads same =
    alike-after constant operation steps (λ i. eqb i 0) one other reads refl (λ i e. at i e)
  where
    at : (i : ℕ) → eqb i 0 ≡ true → one i ≡ other i
    at i e = rw (eqb-true i 0 e) same
