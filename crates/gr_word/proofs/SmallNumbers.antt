-- Operations on words that are small numbers.
use Rattle.std.proofs.Common.{◌≡◌, ℕ, ◌+◌, ◌-◌, ◌/◌, ◌%◌, ◌^◌, ◌<◌, ◌≤◌, false, cond, ◌==◌, ℤ, pos, ap, ◌∙◌, arith, w64, mod-lt, pow_mono}
use Rattle.std.specs.Int.{cast_signed}
use Rattle.std.proofs.lemmas.Bool.{ne_eqb}
use Rattle.std.proofs.lemmas.Int.{to_z_pos, int_wrap_fits}
use Rattle.std.proofs.lemmas.Nat.{and_mask, pow_pos}
use Rattle.gr_word.specs.declared.operations.Op.TheVariants.{Add, Remu, And, Shr}
use Rattle.gr_word.specs.Prelude.{applied, unsigned_of}

-- a small number read as a signed one
cast-small : (n : ℕ) → n < 2 ^ 63 → cast_signed w64 n ≡ pos n
cast-small n below = to_z_pos w64 n below

-- a remainder by a small number that isn't 0
pub remu_small : (a : ℤ) (n : ℕ) → 1 ≤ n → n < 2 ^ 63 → applied Remu a (pos n) ≡ pos (unsigned_of a % n)
remu_small a n least below =
    let no_zero : (n == 0) ≡ false = ne_eqb n 0 (λ same. absurd (omega arith)) in
    let part : unsigned_of a % n < n = mod-lt (unsigned_of a) least in
    ap (λ b. cond b a (cast_signed w64 (unsigned_of a % n))) no_zero ∙ cast-small (unsigned_of a % n) (omega arith)

-- the bits under a mask of low bits are the remainder by a power of two
pub and_small : (a : ℤ) (k : ℕ) → k < 63 → applied And a (pos (2 ^ k - 1)) ≡ pos (unsigned_of a % 2 ^ k)
and_small a k below =
    let least : 0 < 2 ^ k = pow_pos k in
    let part : unsigned_of a % 2 ^ k < 2 ^ k = mod-lt (unsigned_of a) least in
    let most : 2 ^ k ≤ 2 ^ 63 = pow_mono {i = k} {j = 63} (omega arith) in
    ap (cast_signed w64) (and_mask (unsigned_of a) k) ∙ cast-small (unsigned_of a % 2 ^ k) (omega arith)

-- a shift to the right is the quotient by a power of two
pub shr_small : (i k : ℕ) → k < 64 → applied Shr (pos i) (pos k) ≡ pos (i / 2 ^ k)
shr_small i k below = ap (λ n. pos (i / 2 ^ n)) (mod_small k below)
  where
    mod_small : (k : ℕ) → k < 64 → k % 64 ≡ k
    mod_small k below = omega arith

-- a sum that is small doesn't wrap
pub add_small : (a b : ℕ) → a + b < 2 ^ 63 → applied Add (pos a) (pos b) ≡ pos (a + b)
add_small a b below = int_wrap_fits w64 (pos (a + b)) (record { sfits = below })
