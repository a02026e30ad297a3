-- The result of an operation on words in ranges is in the range that is known of it.
use Rattle.std.proofs.Common.{◌≡◌, ℕ, zero, suc, ◌+◌, ◌-◌, ◌*◌, ◌%◌, ◌^◌, ◌<◌, ◌≤◌, nat_lt, Bool, true, false, cond, ℤ, pos, negsuc, Option, Some, None, refl, sym, ap, ◌∙◌, arith, w64, mod-lt, mul-le-mul, pow_mono}
use Rattle.std.specs.Prelude.{nat_le, ◌&&◌, ◌-ℤ◌, int_rem, bit_and}
use Rattle.std.specs.Int.{cast_signed, int_wrap}
use Rattle.std.proofs.lemmas.Bool.{ltb-true, ltb-false, leb-true, le-ltb, ne_eqb}
use Rattle.std.proofs.lemmas.Int.{to_z_pos, int_wrap_fits}
use Rattle.std.proofs.lemmas.Nat.{and_le_r}
use Rattle.gr_word.specs.declared.operations.Op.{Op}
use Rattle.gr_word.specs.declared.operations.Op.TheVariants.{Add, Sub, Mul, Div, Rem, Remu, And, Or, Xor, Shl, Shr}
use Rattle.gr_word.specs.Prelude.{applied, unsigned_of}
use Rattle.scalar_ranges.specs.declared.ranges.Range.{Range}
use Rattle.scalar_ranges.specs.Prelude.{IsIn, range_from, natural, range_by, range_under, operated}

-- a range with these ends, whose numbers are words
pub record IsFrom (least most : ℕ) (r : Range) : Type 0 where
  pub least_is : r.least ≡ least
  pub most_is : r.most ≡ most
  pub ordered : least ≤ most
  pub fits : most < 2 ^ 63

abbrev range : (least most : ℕ) → Range
range least most = record { least = least; most = most }

some-same : (a b : Range) → Some a ≡ Some b → a ≡ b
some-same a b e = cc

pub no-range : {A : Type 0} (r : Range) → ◌≡◌ {A = Option Range} None (Some r) → A
no-range r e = absurd (cc)

pub from-is : (least most : ℕ) (r : Range) → range_from least most ≡ Some r → IsFrom least most r
from-is least most r e = by (nat_le least most) (nat_lt most 9223372036854775808) refl refl e
  where
    by : (a b : Bool) → nat_le least most ≡ a → nat_lt most 9223372036854775808 ≡ b
        → cond (a && b) (Some (range least most)) None ≡ Some r → IsFrom least most r
    by true true ordered fits found = record {
      least_is = ap (λ (s : Range). s.least) (sym (some-same (range least most) r found));
      most_is = ap (λ (s : Range). s.most) (sym (some-same (range least most) r found));
      ordered = leb-true least most ordered;
      fits = let below = ltb-true most 9223372036854775808 fits in omega (arith, below);
    }
    by true false ordered fits found = no-range r found
    by false b ordered fits found = no-range r found

-- a natural number between the ends
pub from-in : (least most : ℕ) (r : Range) (n : ℕ) (z : ℤ) → IsFrom least most r → z ≡ pos n → least ≤ n → n ≤ most
    → IsIn r z
from-in least most r n z is same low high =
    let l = is.least_is in
    let m = is.most_is in
    record { number = n; is = same; least = omega (arith, l, low); most = omega (arith, m, high) }

pub natural-in : (z : ℤ) (r : Range) → natural z ≡ Some r → IsIn r z
natural-in (pos n) r e = from-in n n r n (pos n) (from-is n n r e) refl (omega arith) (omega arith)
natural-in (negsuc n) r e = no-range r e

-- numbers in ranges
difference : (a b : ℕ) → b ≤ a → pos a -ℤ pos b ≡ pos (a - b)
difference a zero le = ap pos (let e : a + 0 ≡ a - 0 = omega arith in e)
difference a (suc b) le = ap (λ c. cond c (negsuc (suc b - suc a)) (pos (a - suc b))) (le-ltb a (suc b) le)

wrapped-small : (n : ℕ) → n < 2 ^ 63 → int_wrap w64 (pos n) ≡ pos n
wrapped-small n below = int_wrap_fits w64 (pos n) (record { sfits = below })

masked : (z : ℤ) (n : ℕ) → n < 2 ^ 63 → applied And z (pos n) ≡ pos (bit_and (unsigned_of z) n)
masked z n below =
    let less = and_le_r (unsigned_of z) n in
    to_z_pos w64 (bit_and (unsigned_of z) n) (omega (arith, less, below))

masked-in : (most : ℕ) (r : Range) (z y : ℤ) (n : ℕ) → IsFrom 0 most r → y ≡ pos n → n ≤ most
    → IsIn r (applied And z y)
masked-in most r z y n is same high =
    let fits = is.fits in
    let less = and_le_r (unsigned_of z) n in
    from-in 0 most r (bit_and (unsigned_of z) n) (applied And z y) is
    (ap (applied And z) same ∙ masked z n (omega (arith, fits, high))) (omega arith) (omega (arith, less, high))

remainder : (a b : ℕ) → 0 < b → applied Rem (pos a) (pos b) ≡ pos (a % b)
remainder a b some =
    ap (λ t. cond t (pos a) (int_rem (pos a) (pos b))) (ne_eqb b 0 (λ same. absurd (omega (arith, same, some))))

shifted : (a k : ℕ) → k < 63 → a * 2 ^ k < 2 ^ 63 → applied Shl (pos a) (pos k) ≡ pos (a * 2 ^ k)
shifted a k few below =
    let small : k % 64 ≡ k = omega (arith, few) in
    let same : (a * 2 ^ k) % 2 ^ 64 ≡ a * 2 ^ k = omega (arith, below) in
    ap (λ n. cast_signed w64 ((a * 2 ^ n) % 2 ^ 64)) small
    ∙ ap (cast_signed w64) same
    ∙ to_z_pos w64 (a * 2 ^ k) below

on-both : (op : Op) (y z : ℤ) (m n : ℕ) → y ≡ pos m → z ≡ pos n → applied op y z ≡ applied op (pos m) (pos n)
on-both op y z m n first second = ap (λ u. applied op u z) first ∙ ap (applied op (pos m)) second

product-between : (a b c d e f : ℕ) → a ≤ b → b ≤ c → d ≤ e → e ≤ f → (a * d ≤ b * e) × (b * e ≤ c * f)
product-between a b c d e f one two three four = (mul-le-mul one three, mul-le-mul two four)

module _ (a b r : Range) (y z : ℤ) (first : IsIn a y) (second : IsIn b z) where
  sum-in : range_by Add a b ≡ Some r → IsIn r (applied Add y z)
  sum-in e =
      let is = from-is (a.least + b.least) (a.most + b.most) r e in
      let fits = is.fits in
      let l = first.least in
      let m = first.most in
      let k = second.least in
      let n = second.most in
      from-in (a.least + b.least) (a.most + b.most) r (first.number + second.number) (applied Add y z) is
      (on-both Add y z first.number second.number first.is second.is
      ∙ wrapped-small (first.number + second.number) (omega (arith, fits, m, n)))
      (omega (arith, l, k)) (omega (arith, m, n))

  difference-in : range_by Sub a b ≡ Some r → IsIn r (applied Sub y z)
  difference-in e = by (nat_lt a.least b.most) refl e
    where
      by : (t : Bool) → nat_lt a.least b.most ≡ t
          → cond t None (range_from (a.least - b.most) (a.most - b.least)) ≡ Some r → IsIn r (applied Sub y z)
      by true less f = no-range r f
      by false less f =
          let is = from-is (a.least - b.most) (a.most - b.least) r f in
          let fits = is.fits in
          let above = ltb-false a.least b.most less in
          let l = first.least in
          let m = first.most in
          let k = second.least in
          let n = second.most in
          from-in (a.least - b.most) (a.most - b.least) r (first.number - second.number) (applied Sub y z) is
          (on-both Sub y z first.number second.number first.is second.is
          ∙ ap (int_wrap w64) (difference first.number second.number (omega (arith, above, l, n)))
          ∙ wrapped-small (first.number - second.number) (omega (arith, fits, m, k)))
          (omega (arith, l, n)) (omega (arith, m, k))

  product-in : range_by Mul a b ≡ Some r → IsIn r (applied Mul y z)
  product-in e =
      let is = from-is (a.least * b.least) (a.most * b.most) r e in
      let fits = is.fits in
      let between = product-between a.least first.number a.most b.least second.number b.most first.least first.most
      second.least second.most in
      let high = between.1 in
      from-in (a.least * b.least) (a.most * b.most) r (first.number * second.number) (applied Mul y z) is
      (on-both Mul y z first.number second.number first.is second.is
      ∙ wrapped-small (first.number * second.number) (omega (arith, high, fits)))
      between.0 high

  remainder-in : range_by Rem a b ≡ Some r → IsIn r (applied Rem y z)
  remainder-in e = by (nat_lt 0 b.least) refl e
    where
      by : (t : Bool) → nat_lt 0 b.least ≡ t → cond t (range_from 0 (b.most - 1)) None ≡ Some r
          → IsIn r (applied Rem y z)
      by false some f = no-range r f
      by true some f =
          let is = from-is 0 (b.most - 1) r f in
          let least = ltb-true 0 b.least some in
          let k = second.least in
          let n = second.most in
          let positive : 0 < second.number = omega (arith, least, k) in
          let part : first.number % second.number < second.number = mod-lt first.number positive in
          from-in 0 (b.most - 1) r (first.number % second.number) (applied Rem y z) is
          (on-both Rem y z first.number second.number first.is second.is
          ∙ remainder first.number second.number positive)
          (omega arith) (omega (arith, part, n))

  mask-in : range_from 0 b.most ≡ Some r → IsIn r (applied And y z)
  mask-in e = masked-in b.most r y z second.number (from-is 0 b.most r e) second.is second.most

  shift-in : range_by Shl a b ≡ Some r → IsIn r (applied Shl y z)
  shift-in e = by (nat_le b.least b.most) (nat_lt b.most 63) refl refl e
    where
      by : (s t : Bool) → nat_le b.least b.most ≡ s → nat_lt b.most 63 ≡ t
          → cond (s && t) (range_from (a.least * 2 ^ b.least) (a.most * 2 ^ b.most)) None ≡ Some r
          → IsIn r (applied Shl y z)
      by false t ordered few f = no-range r f
      by true false ordered few f = no-range r f
      by true true ordered few f =
          let is = from-is (a.least * 2 ^ b.least) (a.most * 2 ^ b.most) r f in
          let fits = is.fits in
          let below = ltb-true b.most 63 few in
          let n = second.most in
          let between = product-between a.least first.number a.most (2 ^ b.least) (2 ^ second.number) (2 ^ b.most)
          first.least first.most (pow_mono {i = b.least} {j = second.number} second.least)
          (pow_mono {i = second.number} {j = b.most} second.most) in
          from-in (a.least * 2 ^ b.least) (a.most * 2 ^ b.most) r (first.number * 2 ^ second.number) (applied Shl y z)
          is
          (on-both Shl y z first.number second.number first.is second.is
          ∙ shifted first.number second.number (omega (arith, below, n))
          (let high = between.1 in omega (arith, high, fits)))
          between.0 between.1

  pub by-in : (op : Op) → range_by op a b ≡ Some r → IsIn r (applied op y z)
  by-in Add e = sum-in e
  by-in Sub e = difference-in e
  by-in Mul e = product-in e
  by-in Rem e = remainder-in e
  by-in And e = mask-in e
  by-in Shl e = shift-in e
  by-in other e = no-range r e

under-in : (op : Op) (b r : Range) (y z : ℤ) → IsIn b z → range_under op b ≡ Some r → IsIn r (applied op y z)
under-in And b r y z second e = masked-in b.most r y z second.number (from-is 0 b.most r e) second.is second.most
under-in other b r y z second e = no-range r e

-- the range of an operation, from those of its operands
pub operated-in : (op : Op) (a b : Option Range) (r : Range) (y z : ℤ) → ((s : Range) → a ≡ Some s → IsIn s y)
    → ((s : Range) → b ≡ Some s → IsIn s z) → operated op a b ≡ Some r → IsIn r (applied op y z)
operated-in op a None r y z first second e = no-range r e
operated-in op None (Some b) r y z first second e = under-in op b r y z (second b refl) e
operated-in op (Some a) (Some b) r y z first second e = by-in a b r y z (first a refl) (second b refl) op e
