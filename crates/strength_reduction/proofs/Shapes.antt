-- What steps read, write and cost, and which of their results may be secret.
use Rattle.std.proofs.Common.{◌≡◌, ℕ, ◌*◌, ◌^◌, ◌-◌, ◌<◌, ◌≤◌, Bool, true, false, ◌&&◌, ◌||◌, cond, eqb, pos, List, [], ◌∷◌, length, refl, arith, pow_mono}
use Rattle.std.specs.Prelude.{All}
use Rattle.std.proofs.lemmas.Bool.{false≢true}
use Rattle.std.proofs.lemmas.List.Elements.{All-cons, All-nil, All-head, All-tail}
use Rattle.std.proofs.Math.Bool.{or_self, or-false}
use Rattle.gr_word.specs.declared.operations.Op.TheVariants.{Add, Sub, And, Shl, Shr}
use Rattle.gr_word.specs.Prelude.{IsWord}
use Rattle.strength_reduction.specs.Prelude.{Step, Constant, Compute, left_by, secrets_after, reads_known, replaced, StepFits, IsQuick, zero_steps, sum_register, sum_steps, product_steps, low_bits, rounding_steps, quotient_steps, remainder_steps, mask_steps}

-- a property of each step, step by step
abbrev Each : (Step → Type 0) → List Step → Type 0
Each P [] = Unit {0}
Each P (step ∷ steps) = P step × Each P steps

each-all : (P : Step → Type 0) (steps : List Step) → Each P steps → All P steps
each-all P [] each = All-nil P
each-all P (step ∷ steps) each = All-cons P step steps each.0 (each-all P steps each.1)

-- what is true of one list and of another is true of either
either : {X : Type 0} → (P : X → Type 0) (b : Bool) (x y : X) → P x → P y → P (cond b x y)
either P true x y px py = px
either P false x y px py = py

-- ---- which results may be secret

-- a sum and a term, both as secret as the value
joined : (a b : Bool) → a ≡ b → (a || (b || false)) ≡ b
joined true b e = e
joined false b e = or-false b

-- what steps leave in the registers, as labels
abbrev labels : List Step → (ℕ → Bool) → ℕ → Bool
labels steps secret = left_by (λ value. false) (λ op left right. left || right) steps secret

sums-label : (k : ℕ) (bits : List ℕ) (secret : ℕ → Bool)
    → secret 1 ≡ secret 0
    → labels (sum_steps 1 (k ∷ bits)) secret 0 ≡ secret 0
sums-label k [] secret same = joined (secret 1) (secret 0) same
sums-label k (l ∷ bits) secret same =
    sums-label l bits (labels (Constant 2 (pos k) ∷ Compute Shl 2 0 2 ∷ Compute Add 1 1 2 ∷ []) secret)
    (joined (secret 1) (secret 0) same)

odd-label : (bits : List ℕ) (secret : ℕ → Bool) → labels (sum_steps 0 bits) secret 0 ≡ secret 0
odd-label [] secret = refl
odd-label (k ∷ []) secret = joined (secret 0) (secret 0) refl
odd-label (k ∷ l ∷ bits) secret =
    sums-label l bits (labels (Constant 2 (pos k) ∷ Compute Shl 2 0 2 ∷ Compute Add 1 0 2 ∷ []) secret)
    (joined (secret 0) (secret 0) refl)

even-label : (k : ℕ) (bits : List ℕ) (secret : ℕ → Bool)
    → labels (Constant 2 (pos k) ∷ Compute Shl (sum_register bits) 0 2 ∷ sum_steps 1 bits) secret 0 ≡ secret 0
even-label k [] secret = or-false (secret 0)
even-label k (l ∷ bits) secret =
    sums-label l bits (labels (Constant 2 (pos k) ∷ Compute Shl 1 0 2 ∷ []) secret) (or-false (secret 0))

-- The result of each list of steps may be secret exactly if the value may be.
pub product-label : (bits : List ℕ) (secret : ℕ → Bool) → secrets_after (product_steps bits) secret 0 ≡ secret 0
product-label [] secret = or_self (secret 0)
product-label (k ∷ bits) secret =
    either (λ steps. labels steps secret 0 ≡ secret 0) (eqb k 0) (sum_steps 0 bits)
    (Constant 2 (pos k) ∷ Compute Shl (sum_register bits) 0 2 ∷ sum_steps 1 bits)
    (odd-label bits secret) (even-label k bits secret)

pub quotient-label : (k : ℕ) (secret : ℕ → Bool) → secrets_after (quotient_steps k) secret 0 ≡ secret 0
quotient-label k secret =
    either (λ steps. labels steps secret 0 ≡ secret 0) (eqb k 0) [] _ refl (rounded (secret 0))
  where
    rounded : (s : Bool) → ((s || ((s || false) || false)) || false) ≡ s
    rounded true = refl
    rounded false = refl

pub remainder-label : (k : ℕ) (secret : ℕ → Bool) → secrets_after (remainder_steps k) secret 0 ≡ secret 0
remainder-label k secret =
    either (λ steps. labels steps secret 0 ≡ secret 0) (eqb k 0) zero_steps _ (or_self (secret 0)) (rounded (secret 0))
  where
    rounded : (s : Bool) → (((s || ((s || false) || false)) || false) || ((s || false) || false)) ≡ s
    rounded true = refl
    rounded false = refl

pub mask-label : (k : ℕ) (secret : ℕ → Bool) → secrets_after (mask_steps k) secret 0 ≡ secret 0
mask-label k secret =
    either (λ steps. labels steps secret 0 ≡ secret 0) (eqb k 0) zero_steps _ (or_self (secret 0)) (or-false (secret 0))

-- ---- what steps read

both-known : (a b c : Bool) → a ≡ true → b ≡ true → c ≡ true → ((a && true) && ((b && true) && c)) ≡ true
both-known true true c ka kb kc = kc
both-known true false c ka kb kc = absurd (false≢true kb)
both-known false b c ka kb kc = absurd (false≢true ka)

sums-read : (k : ℕ) (bits : List ℕ) (known : ℕ → Bool)
    → known 0 ≡ true
    → known 1 ≡ true
    → reads_known known (sum_steps 1 (k ∷ bits)) ≡ true
sums-read k [] known value sum = both-known (known 0) (known 1) true value sum refl
sums-read k (l ∷ bits) known value sum =
    both-known (known 0) (known 1) _ value sum
    (sums-read l bits (replaced (replaced (replaced known 2 true) 2 true) 1 true) value refl)

odd-read : (bits : List ℕ) → reads_known (λ i. eqb i 0) (sum_steps 0 bits) ≡ true
odd-read [] = refl
odd-read (k ∷ []) = refl
odd-read (k ∷ l ∷ bits) =
    sums-read l bits (replaced (replaced (replaced (λ i. eqb i 0) 2 true) 2 true) 1 true) refl refl

even-read : (k : ℕ) (bits : List ℕ)
    → reads_known (λ i. eqb i 0) (Constant 2 (pos k) ∷ Compute Shl (sum_register bits) 0 2 ∷ sum_steps 1 bits) ≡ true
even-read k [] = refl
even-read k (l ∷ bits) = sums-read l bits (replaced (replaced (λ i. eqb i 0) 2 true) 1 true) refl refl

-- Steps read only the value, and registers that an earlier step has written.
abbrev ReadsFirst : List Step → Type 0
ReadsFirst steps = reads_known (λ i. eqb i 0) steps ≡ true

pub product-reads : (bits : List ℕ) → ReadsFirst (product_steps bits)
product-reads [] = refl
product-reads (k ∷ bits) =
    either ReadsFirst (eqb k 0) (sum_steps 0 bits)
    (Constant 2 (pos k) ∷ Compute Shl (sum_register bits) 0 2 ∷ sum_steps 1 bits) (odd-read bits) (even-read k bits)

pub quotient-reads : (k : ℕ) → ReadsFirst (quotient_steps k)
quotient-reads k = either ReadsFirst (eqb k 0) [] _ refl refl

pub remainder-reads : (k : ℕ) → ReadsFirst (remainder_steps k)
remainder-reads k = either ReadsFirst (eqb k 0) zero_steps _ refl refl

pub mask-reads : (k : ℕ) → ReadsFirst (mask_steps k)
mask-reads k = either ReadsFirst (eqb k 0) zero_steps _ refl refl

-- ---- which registers and constants steps name

small-word : (n : ℕ) → n < 2 ^ 63 → IsWord (pos n)
small-word n below = record { sfits = below }

low-word : (k : ℕ) → k ≤ 62 → IsWord (low_bits k)
low-word k le = small-word (2 ^ k - 1) (omega (arith, pow_mono {i = k} {j = 62} le))

-- where a sum is left
register-low : (bits : List ℕ) → sum_register bits ≤ 2
register-low [] = omega arith
register-low (k ∷ bits) = omega arith

sums-fit : (sum : ℕ) (bits : List ℕ) → sum ≤ 2 → All (λ k. k < 64) bits → Each StepFits (sum_steps sum bits)
sums-fit sum [] low bounds = tt
sums-fit sum (k ∷ bits) low bounds =
    let first : k < 64 = All-head (λ k. k < 64) k bits bounds in (
      (omega arith, small-word k (omega arith)),
      (
        (omega arith, omega arith, omega arith),
        (
          (register-low bits, low, omega arith),
          sums-fit 1 bits (omega arith) (All-tail (λ k. k < 64) k bits bounds),
        ),
      ),
    )

even-fit : (k : ℕ) (bits : List ℕ)
    → k < 64
    → All (λ k. k < 64) bits
    → Each StepFits (Constant 2 (pos k) ∷ Compute Shl (sum_register bits) 0 2 ∷ sum_steps 1 bits)
even-fit k bits below bounds = (
  (omega arith, small-word k (omega arith)),
  ((register-low bits, omega arith, omega arith), sums-fit 1 bits (omega arith) bounds),
)

zero-fit : Each StepFits zero_steps
zero-fit = ((omega arith, omega arith, omega arith), tt)

-- Steps name registers 0 to 2, and constants that are words.
pub product-fits : (bits : List ℕ) → All (λ k. k < 64) bits → All StepFits (product_steps bits)
product-fits [] bounds = each-all StepFits zero_steps zero-fit
product-fits (k ∷ bits) bounds =
    each-all StepFits (product_steps (k ∷ bits))
    (either (Each StepFits) (eqb k 0) (sum_steps 0 bits)
    (Constant 2 (pos k) ∷ Compute Shl (sum_register bits) 0 2 ∷ sum_steps 1 bits)
    (sums-fit 0 bits (omega arith) (All-tail (λ k. k < 64) k bits bounds))
    (even-fit k bits (All-head (λ k. k < 64) k bits bounds) (All-tail (λ k. k < 64) k bits bounds)))

rounding-fits : (k : ℕ) (steps : List Step) → k ≤ 62 → Each StepFits steps → Each StepFits (rounding_steps k steps)
rounding-fits k steps le rest = (
  (omega arith, small-word 63 (omega arith)),
  (
    (omega arith, omega arith, omega arith),
    (
      (omega arith, low-word k le),
      (
        (omega arith, omega arith, omega arith),
        ((omega arith, omega arith, omega arith), rest),
      ),
    ),
  ),
)

pub quotient-fits : (k : ℕ) → k ≤ 62 → All StepFits (quotient_steps k)
quotient-fits k le =
    each-all StepFits (quotient_steps k)
    (either (Each StepFits) (eqb k 0) [] (rounding_steps k (Constant 2 (pos k) ∷ Compute Shr 0 0 2 ∷ [])) tt
    (rounding-fits k (Constant 2 (pos k) ∷ Compute Shr 0 0 2 ∷ []) le
    ((omega arith, small-word k (omega arith)), ((omega arith, omega arith, omega arith), tt))))

pub remainder-fits : (k : ℕ) → k ≤ 62 → All StepFits (remainder_steps k)
remainder-fits k le =
    each-all StepFits (remainder_steps k)
    (either (Each StepFits) (eqb k 0) zero_steps
    (rounding_steps k (Compute And 0 0 2 ∷ Compute Sub 0 0 1 ∷ [])) zero-fit
    (rounding-fits k (Compute And 0 0 2 ∷ Compute Sub 0 0 1 ∷ []) le
    ((omega arith, omega arith, omega arith), ((omega arith, omega arith, omega arith), tt))))

pub mask-fits : (k : ℕ) → k ≤ 62 → All StepFits (mask_steps k)
mask-fits k le =
    each-all StepFits (mask_steps k)
    (either (Each StepFits) (eqb k 0) zero_steps (Constant 1 (low_bits k) ∷ Compute And 0 0 1 ∷ []) zero-fit
    ((omega arith, low-word k le), ((omega arith, omega arith, omega arith), tt)))

-- ---- what steps cost

sums-quick : (sum : ℕ) (bits : List ℕ) → Each IsQuick (sum_steps sum bits)
sums-quick sum [] = tt
sums-quick sum (k ∷ bits) = (tt, ((λ profile. refl), ((λ profile. refl), sums-quick 1 bits)))

zero-quick : Each IsQuick zero_steps
zero-quick = ((λ profile. refl), tt)

-- No step is a product, a quotient or a remainder.
pub product-quick : (bits : List ℕ) → All IsQuick (product_steps bits)
product-quick [] = each-all IsQuick zero_steps zero-quick
product-quick (k ∷ bits) =
    each-all IsQuick (product_steps (k ∷ bits))
    (either (Each IsQuick) (eqb k 0) (sum_steps 0 bits)
    (Constant 2 (pos k) ∷ Compute Shl (sum_register bits) 0 2 ∷ sum_steps 1 bits)
    (sums-quick 0 bits) (tt, ((λ profile. refl), sums-quick 1 bits)))

rounding-quick : (k : ℕ) (steps : List Step) → Each IsQuick steps → Each IsQuick (rounding_steps k steps)
rounding-quick k steps rest =
    (tt, ((λ profile. refl), (tt, ((λ profile. refl), ((λ profile. refl), rest)))))

pub quotient-quick : (k : ℕ) → All IsQuick (quotient_steps k)
quotient-quick k =
    each-all IsQuick (quotient_steps k)
    (either (Each IsQuick) (eqb k 0) [] (rounding_steps k (Constant 2 (pos k) ∷ Compute Shr 0 0 2 ∷ [])) tt
    (rounding-quick k (Constant 2 (pos k) ∷ Compute Shr 0 0 2 ∷ []) (tt, ((λ profile. refl), tt))))

pub remainder-quick : (k : ℕ) → All IsQuick (remainder_steps k)
remainder-quick k =
    each-all IsQuick (remainder_steps k)
    (either (Each IsQuick) (eqb k 0) zero_steps
    (rounding_steps k (Compute And 0 0 2 ∷ Compute Sub 0 0 1 ∷ [])) zero-quick
    (rounding-quick k (Compute And 0 0 2 ∷ Compute Sub 0 0 1 ∷ []) ((λ profile. refl), ((λ profile. refl), tt))))

pub mask-quick : (k : ℕ) → All IsQuick (mask_steps k)
mask-quick k =
    each-all IsQuick (mask_steps k)
    (either (Each IsQuick) (eqb k 0) zero_steps (Constant 1 (low_bits k) ∷ Compute And 0 0 1 ∷ []) zero-quick
    (tt, ((λ profile. refl), tt)))

-- ---- how many steps there are

sums-length : (sum : ℕ) (bits : List ℕ) → length (sum_steps sum bits) ≡ 3 * length bits
sums-length sum [] = omega arith
sums-length sum (k ∷ bits) = omega (arith, sums-length 1 bits)

pub product-few : (bits : List ℕ) → length bits ≤ 8 → length (product_steps bits) ≤ 24
product-few [] le = omega arith
product-few (k ∷ bits) le =
    either (λ steps. length steps ≤ 24) (eqb k 0) (sum_steps 0 bits)
    (Constant 2 (pos k) ∷ Compute Shl (sum_register bits) 0 2 ∷ sum_steps 1 bits)
    (omega (arith, sums-length 0 bits)) (omega (arith, sums-length 1 bits))

pub quotient-few : (k : ℕ) → length (quotient_steps k) ≤ 24
quotient-few k = either (λ steps. length steps ≤ 24) (eqb k 0) [] _ (omega arith) (omega arith)

pub remainder-few : (k : ℕ) → length (remainder_steps k) ≤ 24
remainder-few k = either (λ steps. length steps ≤ 24) (eqb k 0) zero_steps _ (omega arith) (omega arith)

pub mask-few : (k : ℕ) → length (mask_steps k) ≤ 24
mask-few k = either (λ steps. length steps ≤ 24) (eqb k 0) zero_steps _ (omega arith) (omega arith)
