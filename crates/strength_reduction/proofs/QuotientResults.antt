-- The steps of quotients and remainders by powers of two result in these.
use Rattle.std.proofs.Common.{◌≡◌, ℕ, zero, suc, ◌+◌, ◌-◌, ◌*◌, ◌/◌, ◌%◌, ◌^◌, ◌<◌, ◌≤◌, Bool, true, false, cond, eqb, ℤ, pos, negsuc, neg_ℤ, ◌+ℤ◌, [], ◌∷◌, refl, sym, ap, ◌∙◌, arith, w64, mod-lt, pow_mono, add-one, ◌⊎◌, inl, inr}
use Rattle.std.specs.Prelude.{◌-ℤ◌, int_div, int_rem}
use Rattle.std.specs.Int.{cast_signed, cast_unsigned, int_wrap}
use Rattle.std.proofs.lemmas.Bool.{eqb-true, ne_eqb, cases_lt}
use Rattle.std.proofs.lemmas.Int.{ints, to_z-of_z, int_wrap_fits}
use Rattle.std.proofs.lemmas.Nat.{pow_pos, pow-add, shr_split, mod-mul-add}
use Rattle.std.proofs.Math.Nat.{mod-eq_of_lt, div-eq_of_lt, div-le_self, mod-le, add-mod_right, add-div_right, mod-one, div-one, zero-mod, lt_of_mul-lt-mul_right}
use Rattle.gr_word.specs.declared.operations.Op.TheVariants.{Add, Sub, Div, Rem, Remu, And, Shr}
use Rattle.gr_word.specs.Prelude.{IsWord, applied, unsigned_of}
use Rattle.gr_word.proofs.SmallNumbers.{and_small, remu_small, shr_small, add_small}
use Rattle.strength_reduction.specs.Prelude.{Constant, Compute, words_after, zero_steps, low_bits, rounding_steps, quotient_steps, remainder_steps, mask_steps}
use Rattle.strength_reduction.proofs.Wrapping.{xor-same}

-- the lowest k bits of a word below 0
low-negative : (x k : ℕ) → x < 2 ^ 64 → k < 63 → (2 ^ 64 - suc x) % 2 ^ k ≡ 2 ^ k - 1 - x % 2 ^ k
low-negative x k fits below =
    let exponent : 64 ≡ (64 - k) + k = omega arith in
    let whole : 2 ^ 64 ≡ 2 ^ (64 - k) * 2 ^ k = ap (λ i. 2 ^ i) exponent ∙ pow-add 2 (64 - k) k in
    let split : x / 2 ^ k * 2 ^ k + x % 2 ^ k ≡ x = shr_split x k in
    let fewer : x / 2 ^ k < 2 ^ (64 - k) = lt_of_mul-lt-mul_right (2 ^ k) (omega arith) in
    let rest : 2 ^ (64 - k) ≡ suc (x / 2 ^ k) + (2 ^ (64 - k) - suc (x / 2 ^ k)) = omega arith in
    by (2 ^ (64 - k) - suc (x / 2 ^ k)) (2 ^ k) (x / 2 ^ k) (x % 2 ^ k) (whole ∙ ap (λ i. i * 2 ^ k) rest)
    (sym split) (mod-lt x (pow_pos k))
  where
    by : (d n q r : ℕ)
        → 2 ^ 64 ≡ (suc q + d) * n
        → x ≡ q * n + r
        → r < n
        → (2 ^ 64 - suc x) % n ≡ n - 1 - r
    by d n q r whole split small =
        let e : 2 ^ 64 - suc x ≡ d * n + (n - 1 - r) = omega arith in
        ap (λ i. i % n) e ∙ mod-mul-add d n (n - 1 - r) (omega arith)

-- a negated number of at most a word's magnitude is a word
IsWord-negated : (r a : ℕ) → r ≤ suc a → a < 2 ^ 63 → IsWord (neg_ℤ (pos r))
IsWord-negated zero a le fits = record { sfits = omega arith }
IsWord-negated (suc r) a le fits = record { sfits = omega arith }

IsWord-div : (v : ℤ) (n : ℕ) → IsWord v → IsWord (int_div v (pos n))
IsWord-div (pos a) n fits = record { sfits = omega (arith, fits.sfits, div-le_self a n) }
IsWord-div (negsuc a) n fits = IsWord-negated (suc a / n) a (div-le_self (suc a) n) fits.sfits

-- a power of two isn't 0
power-not-zero : (k : ℕ) → eqb (2 ^ k) 0 ≡ false
power-not-zero k = ne_eqb (2 ^ k) 0 (λ same. absurd (omega (arith, pow_pos k)))

div-power : (v : ℤ) (k : ℕ) → IsWord v → applied Div v (pos (2 ^ k)) ≡ int_div v (pos (2 ^ k))
div-power v k fits =
    ap (λ b. cond b (negsuc 0) (cast_signed w64 (cast_unsigned w64 (int_div v (pos (2 ^ k)))))) (power-not-zero k)
    ∙ to_z-of_z w64 (int_div v (pos (2 ^ k))) (IsWord-div v (2 ^ k) fits)

rem-power : (v : ℤ) (k : ℕ) → applied Rem v (pos (2 ^ k)) ≡ int_rem v (pos (2 ^ k))
rem-power v k = ap (λ b. cond b v (int_rem v (pos (2 ^ k)))) (power-not-zero k)

-- what the first steps add: 0 to a word from 0 on, and 2^k - 1 to a word below 0
rounding-pos : (a k : ℕ) → a < 2 ^ 63 → k < 63 → applied And (applied Shr (pos a) (pos 63)) (low_bits k) ≡ pos 0
rounding-pos a k fits below =
    ap (λ n. applied And (pos n) (low_bits k)) (div-eq_of_lt fits)
    ∙ (and_small (pos 0) k below ∙ ap pos (zero-mod (2 ^ k)))

rounding-neg : (a k : ℕ)
    → a < 2 ^ 63 → k < 63 → applied And (applied Shr (negsuc a) (pos 63)) (low_bits k) ≡ pos (2 ^ k - 1)
rounding-neg a k fits below =
    ap (λ n. applied And (negsuc n) (low_bits k)) (div-eq_of_lt fits)
    ∙ (and_small (negsuc 0) k below ∙ ap pos (ones below))
  where
    ones : k < 63 → (2 ^ 64 - 1) % 2 ^ k ≡ 2 ^ k - 1
    ones below =
        let low = low-negative 0 k (omega arith) below in
        let none : 0 % 2 ^ k ≡ 0 = zero-mod (2 ^ k) in
        omega arith

-- a word below 0 after the addition: it is below 0 still, or from 0 on
added-below : (a b : ℕ) → a < 2 ^ 63 → b < 2 ^ 63 → b ≤ a → applied Add (negsuc a) (pos b) ≡ negsuc (a - b)
added-below a b fa fb le =
    ap (int_wrap w64) (sum a b le) ∙ int_wrap_fits w64 (negsuc (a - b)) (record { sfits = omega arith })
  where
    sum : (a b : ℕ) → b ≤ a → negsuc a +ℤ pos b ≡ negsuc (a - b)
    sum a b le = omega (arith, ints)

added-above : (a b : ℕ) → a < 2 ^ 63 → b < 2 ^ 63 → suc a ≤ b → applied Add (negsuc a) (pos b) ≡ pos (b - suc a)
added-above a b fa fb le =
    ap (int_wrap w64) (sum a b le) ∙ int_wrap_fits w64 (pos (b - suc a)) (record { sfits = omega arith })
  where
    sum : (a b : ℕ) → suc a ≤ b → negsuc a +ℤ pos b ≡ pos (b - suc a)
    sum a b le = omega (arith, ints)

-- a number below 2^k may be added to a word below 0
power-low : (k : ℕ) → k < 63 → 2 ^ k ≤ 2 ^ 63
power-low k below = pow_mono {i = k} {j = 63} (omega arith)

-- a shift of a word below 0 rounds towards below
shr-negative : (i k : ℕ) → k < 63 → applied Shr (negsuc i) (pos k) ≡ negsuc (i / 2 ^ k)
shr-negative i k below = ap (λ n. negsuc (i / 2 ^ n)) (small k below)
  where
    small : (k : ℕ) → k < 63 → k % 64 ≡ k
    small k below = omega arith

add-nothing : (a : ℕ) → a < 2 ^ 63 → applied Add (pos a) (pos 0) ≡ pos a
add-nothing a fits = add_small a 0 (omega arith) ∙ ap pos (omega arith)

sub-nothing : (a : ℕ) → a < 2 ^ 63 → applied Sub (pos a) (pos 0) ≡ pos a
sub-nothing a fits = ap (int_wrap w64) (same a) ∙ int_wrap_fits w64 (pos a) (record { sfits = fits })
  where
    same : (a : ℕ) → pos a -ℤ pos 0 ≡ pos a
    same a = omega (arith, ints)

-- the quotient of a word from 0 on
quotient-pos : (a k : ℕ)
    → a < 2 ^ 63
    → k < 63
    → applied Shr (applied Add (pos a) (pos 0)) (pos k) ≡ applied Div (pos a) (pos (2 ^ k))
quotient-pos a k fits below =
    ap (λ w. applied Shr w (pos k)) (add-nothing a fits)
    ∙ (shr_small a k (omega arith) ∙ sym (div-power (pos a) k (record { sfits = fits })))

-- the quotient of a word below 0
quotient-neg : (a k : ℕ)
    → a < 2 ^ 63
    → k < 63
    → applied Shr (applied Add (negsuc a) (pos (2 ^ k - 1))) (pos k) ≡ applied Div (negsuc a) (pos (2 ^ k))
quotient-neg a k fits below =
    by-cases (cases_lt a (2 ^ k - 1)) ∙ sym (div-power (negsuc a) k (record { sfits = fits }))
  where
    by-cases : (a < 2 ^ k - 1) ⊎ (2 ^ k - 1 ≤ a)
        → applied Shr (applied Add (negsuc a) (pos (2 ^ k - 1))) (pos k) ≡ neg_ℤ (pos (suc a / 2 ^ k))
    by-cases (inl less) =
        let low : 2 ^ k ≤ 2 ^ 63 = power-low k below in
        let none : suc a / 2 ^ k ≡ 0 = div-eq_of_lt (omega arith) in
        let zero-left : (2 ^ k - 1 - suc a) / 2 ^ k ≡ 0 = div-eq_of_lt (omega arith) in
        ap (λ w. applied Shr w (pos k)) (added-above a (2 ^ k - 1) fits (omega (arith, pow_pos k)) less)
        ∙ (shr_small (2 ^ k - 1 - suc a) k (omega arith)
        ∙ (ap pos zero-left ∙ sym (ap (λ q. neg_ℤ (pos q)) none)))
    by-cases (inr more) =
        let low : 2 ^ k ≤ 2 ^ 63 = power-low k below in
        let whole : suc a ≡ (a - (2 ^ k - 1)) + 2 ^ k = omega (arith, pow_pos k) in
        let one-more : suc a / 2 ^ k ≡ suc ((a - (2 ^ k - 1)) / 2 ^ k) =
        ap (λ i. i / 2 ^ k) whole
        ∙ (add-div_right (a - (2 ^ k - 1)) (pow_pos k) ∙ add-one ((a - (2 ^ k - 1)) / 2 ^ k)) in
        ap (λ w. applied Shr w (pos k)) (added-below a (2 ^ k - 1) fits (omega (arith, pow_pos k)) more)
        ∙ (shr-negative (a - (2 ^ k - 1)) k below ∙ sym (ap (λ q. neg_ℤ (pos q)) one-more))

-- the quotient of any word
quotient-of : (v : ℤ) (k : ℕ)
    → IsWord v
    → k < 63
    → applied Shr (applied Add v (applied And (applied Shr v (pos 63)) (low_bits k))) (pos k)
    ≡ applied Div v (pos (2 ^ k))
quotient-of (pos a) k fits below =
    ap (λ w. applied Shr (applied Add (pos a) w) (pos k)) (rounding-pos a k fits.sfits below)
    ∙ quotient-pos a k fits.sfits below
quotient-of (negsuc a) k fits below =
    ap (λ w. applied Shr (applied Add (negsuc a) w) (pos k)) (rounding-neg a k fits.sfits below)
    ∙ quotient-neg a k fits.sfits below

-- the remainder of a word from 0 on
remainder-pos : (a k : ℕ)
    → a < 2 ^ 63
    → k < 63
    → applied Sub (applied And (applied Add (pos a) (pos 0)) (low_bits k)) (pos 0) ≡ applied Rem (pos a) (pos (2 ^ k))
remainder-pos a k fits below =
    let small : a % 2 ^ k ≤ a = mod-le a (2 ^ k) in
    ap (λ w. applied Sub (applied And w (low_bits k)) (pos 0)) (add-nothing a fits)
    ∙ (ap (λ w. applied Sub w (pos 0)) (and_small (pos a) k below)
    ∙ (sub-nothing (a % 2 ^ k) (omega arith) ∙ sym (rem-power (pos a) k)))

-- the lowest bits of a word below 0 after the addition
low-rounded : (a k : ℕ)
    → a < 2 ^ 63
    → k < 63
    → applied And (applied Add (negsuc a) (pos (2 ^ k - 1))) (low_bits k) ≡ pos (2 ^ k - 1 - suc a % 2 ^ k)
low-rounded a k fits below = by-cases (cases_lt a (2 ^ k - 1))
  where
    by-cases : (a < 2 ^ k - 1) ⊎ (2 ^ k - 1 ≤ a)
        → applied And (applied Add (negsuc a) (pos (2 ^ k - 1))) (low_bits k) ≡ pos (2 ^ k - 1 - suc a % 2 ^ k)
    by-cases (inl less) =
        let low : 2 ^ k ≤ 2 ^ 63 = power-low k below in
        let same : suc a % 2 ^ k ≡ suc a = mod-eq_of_lt (omega arith) in
        let left : (2 ^ k - 1 - suc a) % 2 ^ k ≡ 2 ^ k - 1 - suc a = mod-eq_of_lt (omega arith) in
        ap (λ w. applied And w (low_bits k)) (added-above a (2 ^ k - 1) fits (omega (arith, pow_pos k)) less)
        ∙ (and_small (pos (2 ^ k - 1 - suc a)) k below
        ∙ ap pos (left ∙ ap (λ r. 2 ^ k - 1 - r) (sym same)))
    by-cases (inr more) =
        let low : 2 ^ k ≤ 2 ^ 63 = power-low k below in
        let whole : suc a ≡ (a - (2 ^ k - 1)) + 2 ^ k = omega (arith, pow_pos k) in
        let same : suc a % 2 ^ k ≡ (a - (2 ^ k - 1)) % 2 ^ k =
        ap (λ i. i % 2 ^ k) whole ∙ add-mod_right (a - (2 ^ k - 1)) (2 ^ k) in
        ap (λ w. applied And w (low_bits k)) (added-below a (2 ^ k - 1) fits (omega (arith, pow_pos k)) more)
        ∙ (and_small (negsuc (a - (2 ^ k - 1))) k below
        ∙ ap pos
        (low-negative (a - (2 ^ k - 1)) k (omega arith) below ∙ ap (λ r. 2 ^ k - 1 - r) (sym same)))

-- the remainder of a word below 0
remainder-neg : (a k : ℕ)
    → a < 2 ^ 63
    → k < 63
    → applied Sub (applied And (applied Add (negsuc a) (pos (2 ^ k - 1))) (low_bits k)) (pos (2 ^ k - 1))
    ≡ applied Rem (negsuc a) (pos (2 ^ k))
remainder-neg a k fits below =
    let below-power : suc a % 2 ^ k < 2 ^ k = mod-lt (suc a) (pow_pos k) in
    ap (λ w. applied Sub w (pos (2 ^ k - 1))) (low-rounded a k fits below)
    ∙ (ap (int_wrap w64) (difference (suc a % 2 ^ k) (2 ^ k - 1) (omega arith))
    ∙ (int_wrap_fits w64 (neg_ℤ (pos (suc a % 2 ^ k)))
    (IsWord-negated (suc a % 2 ^ k) a (mod-le (suc a) (2 ^ k)) fits)
    ∙ sym (rem-power (negsuc a) k)))
  where
    difference : (r b : ℕ) → r ≤ b → pos (b - r) -ℤ pos b ≡ neg_ℤ (pos r)
    difference r b le = omega (arith, ints)

-- the remainder of any word
remainder-of : (v : ℤ) (k : ℕ)
    → IsWord v
    → k < 63
    → applied Sub
    (applied And (applied Add v (applied And (applied Shr v (pos 63)) (low_bits k))) (low_bits k))
    (applied And (applied Shr v (pos 63)) (low_bits k))
    ≡ applied Rem v (pos (2 ^ k))
remainder-of (pos a) k fits below =
    ap (λ w. applied Sub (applied And (applied Add (pos a) w) (low_bits k)) w) (rounding-pos a k fits.sfits below)
    ∙ remainder-pos a k fits.sfits below
remainder-of (negsuc a) k fits below =
    ap (λ w. applied Sub (applied And (applied Add (negsuc a) w) (low_bits k)) w) (rounding-neg a k fits.sfits below)
    ∙ remainder-neg a k fits.sfits below

-- division by 1
by-one : (v : ℤ) → int_div v (pos 1) ≡ v
by-one (pos a) = ap pos (div-one a)
by-one (negsuc a) = ap (λ q. neg_ℤ (pos q)) (div-one (suc a))

over-one : (v : ℤ) → int_rem v (pos 1) ≡ pos 0
over-one (pos a) = ap pos (mod-one a)
over-one (negsuc a) = ap (λ r. neg_ℤ (pos r)) (mod-one (suc a))

-- the steps of a quotient by 2^k result in the quotient
pub quotient-result : (k : ℕ) (words : ℕ → ℤ)
    → k ≤ 62
    → IsWord (words 0)
    → words_after (quotient_steps k) words 0 ≡ applied Div (words 0) (pos (2 ^ k))
quotient-result k words below fits = cases (eqb k 0) refl
  where
    cases : (b : Bool)
        → eqb k 0 ≡ b
        → words_after (cond b [] (rounding_steps k (Constant 2 (pos k) ∷ Compute Shr 0 0 2 ∷ []))) words 0
        ≡ applied Div (words 0) (pos (2 ^ k))
    cases true e =
        sym (div-power (words 0) 0 fits ∙ by-one (words 0))
        ∙ ap (λ i. applied Div (words 0) (pos (2 ^ i))) (sym (eqb-true k 0 e))
    cases false e = quotient-of (words 0) k fits (omega arith)

-- the steps of a remainder by 2^k result in the remainder
pub remainder-result : (k : ℕ) (words : ℕ → ℤ)
    → k ≤ 62
    → IsWord (words 0)
    → words_after (remainder_steps k) words 0 ≡ applied Rem (words 0) (pos (2 ^ k))
remainder-result k words below fits = cases (eqb k 0) refl
  where
    cases : (b : Bool)
        → eqb k 0 ≡ b
        → words_after
        (cond b zero_steps (rounding_steps k (Compute And 0 0 2 ∷ Compute Sub 0 0 1 ∷ [])))
        words 0
        ≡ applied Rem (words 0) (pos (2 ^ k))
    cases true e =
        xor-same (words 0)
        ∙ (sym (rem-power (words 0) 0 ∙ over-one (words 0))
        ∙ ap (λ i. applied Rem (words 0) (pos (2 ^ i))) (sym (eqb-true k 0 e)))
    cases false e = remainder-of (words 0) k fits (omega arith)

-- the steps of an unsigned remainder by 2^k result in the remainder
pub mask-result : (k : ℕ) (words : ℕ → ℤ)
    → k ≤ 62
    → words_after (mask_steps k) words 0 ≡ applied Remu (words 0) (pos (2 ^ k))
mask-result k words below = cases (eqb k 0) refl
  where
    masked : (i : ℕ) → i ≤ 62 → applied Remu (words 0) (pos (2 ^ i)) ≡ pos (unsigned_of (words 0) % 2 ^ i)
    masked i below =
        remu_small (words 0) (2 ^ i) (pow_pos i) (omega (arith, pow_mono {i = i} {j = 62} below))

    cases : (b : Bool)
        → eqb k 0 ≡ b
        → words_after (cond b zero_steps (Constant 1 (low_bits k) ∷ Compute And 0 0 1 ∷ [])) words 0
        ≡ applied Remu (words 0) (pos (2 ^ k))
    cases true e =
        xor-same (words 0)
        ∙ (sym (masked 0 (omega arith) ∙ ap pos (mod-one (unsigned_of (words 0))))
        ∙ ap (λ i. applied Remu (words 0) (pos (2 ^ i))) (sym (eqb-true k 0 e)))
    cases false e = and_small (words 0) k (omega arith) ∙ sym (masked k below)
