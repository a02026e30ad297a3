-- `a >>> b` divides the word a, as an unsigned number, by a power of two.
use Rattle.std.proofs.Common.{◌≡◌, ℕ, suc, ◌+◌, ◌-◌, ◌*◌, ◌/◌, ◌%◌, ◌^◌, ◌<◌, ℤ, pos, negsuc, sym, ap, ◌∙◌, arith, w64, mod-lt}
use Rattle.std.specs.Int.{cast_signed, int_shr}
use Rattle.std.proofs.Math.Pow.{shr_mod, not_mod}
use Rattle.std.proofs.lemmas.Nat.{pow_pos, pow-add, shr_split, shr_below, div-mul-add}
use Rattle.gr_word.specs.Prelude.{IsWord, unsigned_of}
use Rattle.module_tree.specs.Operators.{shifted_logically}

-- the product of the two powers
full : (n : ℕ) → n < 64 → 2 ^ 64 ≡ 2 ^ (64 - n) * 2 ^ n
full n few =
    ap (λ k. 2 ^ k) (let e : 64 ≡ 64 - n + n = omega arith in e) ∙ pow-add 2 (64 - n) n

quotient_below : (a n : ℕ) → n < 64 → a < 2 ^ 64 → a / 2 ^ n < 2 ^ (64 - n)
quotient_below a n few below =
    let e : 2 ^ (64 - n + n) ≡ 2 ^ 64 = ap (λ k. 2 ^ k) (let f : 64 - n + n ≡ 64 = omega arith in f) in
    shr_below a (64 - n) n (omega (arith, e, below))

-- the quotient of a complement is the complement of the quotient
complement_quotient : (a n : ℕ) → n < 64 → a < 2 ^ 64
    → (2 ^ 64 - suc a) / 2 ^ n ≡ 2 ^ (64 - n) - 1 - a / 2 ^ n
complement_quotient a n few below =
    let p = 2 ^ n in
    let s = 2 ^ (64 - n) in
    let q = a / p in
    let r = a % p in
    let least : 0 < p = pow_pos n in
    let lower : r < p = mod-lt a least in
    let quotient : q < s = quotient_below a n few below in
    let other = s - 1 - q in
    let parts : s ≡ q + 1 + other = omega (arith, quotient) in
    let product : s * p ≡ (q + 1 + other) * p = ap (λ x. x * p) parts in
    let whole : q * p + r ≡ a = shr_split a n in
    let all : 2 ^ 64 ≡ s * p = full n few in
    let split : 2 ^ 64 - suc a ≡ other * p + (p - 1 - r) = omega (arith, product, whole, all, lower) in
    ap (λ x. x / p) split ∙ div-mul-add other p (p - 1 - r) (omega (arith, lower))

shifted_word : (a : ℤ) (n : ℕ) → n < 64 → IsWord a
    → unsigned_of (int_shr a n) % 2 ^ (64 - n) ≡ unsigned_of a / 2 ^ n
shifted_word (pos a) n few word =
    let below = word.sfits in
    let e : 2 ^ (64 - n + n) ≡ 2 ^ 64 = ap (λ k. 2 ^ k) (let f : 64 - n + n ≡ 64 = omega arith in f) in
    shr_mod (64 - n) n (omega (arith, e, below))
shifted_word (negsuc a) n few word =
    let below = word.sfits in
    let quotient = quotient_below a n few (omega (arith, below)) in
    let e : 2 ^ (n + (64 - n)) ≡ 2 ^ 64 = ap (λ k. 2 ^ k) (let f : n + (64 - n) ≡ 64 = omega arith in f) in
    let same : 2 ^ 64 - suc (a / 2 ^ n) ≡ 2 ^ (n + (64 - n)) - 1 - a / 2 ^ n = omega (arith, e) in
    ap (λ x. x % 2 ^ (64 - n)) same
    ∙ not_mod n (64 - n) quotient
    ∙ sym (complement_quotient a n few (omega (arith, below)))

pub logical_shift : (a b : ℤ) → IsWord a
    → shifted_logically a b ≡ cast_signed w64 (unsigned_of a / 2 ^ (unsigned_of b % 64))
logical_shift a b word = ap (cast_signed w64) (shifted_word a (unsigned_of b % 64) (omega arith) word)
