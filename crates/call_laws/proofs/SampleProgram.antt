-- The sample's program is well typed, is within the limits, and has room in blocks of 512 words.
use Rattle.std.proofs.Common.{◌≡◌, ℕ, zero, suc, ◌+◌, ◌-◌, ◌<◌, ◌≤◌, ◌==◌, Bool, true, false, cond, ◌&&◌, nat_le, nat_lt, List, [], ◌∷◌, refl, sym, ap, ap₂, ◌∙◌, subst, arith}
use Rattle.std.specs.Prelude.{sum_by}
use Rattle.std.specs.List.{AllByRecursion}
use Rattle.std.proofs.Math.Nat.{min-zero}
use Rattle.std.proofs.lemmas.Bool.{ne_eqb}
use Rattle.std.proofs.lemmas.List.Sums.{sum_by-cons}
use Rattle.gr_base.specs.Prelude.{Within}
use Rattle.gr_word.specs.declared.variables.Label.TheVariants.{Public, Secret}
use Rattle.lt_isa.specs.Prelude.{most_blocks}
use Rattle.src_tree.specs.Prelude.{IsWithinLimits, IsTyped}
use Rattle.bank_alloc.specs.Prelude.{Fits, is_array, blocks_for, blocks_needed, blocks_taken, first_block, places_behind, places_of}
use Rattle.bank_alloc.specs.declared.classes.Class.{Class}
use Rattle.bank_alloc.specs.declared.classes.Class.TheVariants.{EncryptedArray, ObliviousArray}
use Rattle.bank_alloc.specs.declared.places.Place.{Place}
use Rattle.resident_alloc.specs.declared.wants.Want.{Want}
use Rattle.resident_alloc.specs.Prelude.{blocks_of_all, is_of, left_out, own_most, room_for, wants_of, blocks_in_turn, own_secret, resident_blocks, without_short}
use Rattle.call_laws.specs.Prelude.{sample_program}

-- the sample's program is well typed
pub sample_typed : (n : ℕ) → IsTyped (sample_program n)
sample_typed n = record {
  once = (refl, (refl, (refl, (refl, tt))));
  body = (
    ((Public, refl), (tt, tt)),
    (
      (
        ((Public, refl), tt),
        (
          refl,
          (
            refl,
            (
              ((Secret, refl), ((((Secret, refl), ((Public, refl), tt)), tt), tt)),
              (
                (((Secret, refl), ((Secret, refl), tt)), ((((Secret, refl), ((Secret, refl), tt)), tt), tt)),
                (((Public, refl), (((Public, refl), tt), tt)), tt),
              ),
            ),
          ),
        ),
      ),
      tt,
    ),
  );
}

-- and within the limits
pub sample_within : (n : ℕ) → Within 1 65536 n → IsWithinLimits (sample_program n)
sample_within n few = record {
  variables = omega arith;
  lengths = (tt, ((few.0, omega (arith, few.1)), ((omega arith, omega arith), (tt, tt))));
  words = omega (arith, few.1);
  heights =
      (omega arith, (((omega arith, omega arith), (omega arith, ((omega arith, omega arith), (omega arith, tt)))), tt));
  weight = omega arith;
}

-- ---- the banks

-- a bank without variables
taken-none : (b : ℕ) (q : Place) → (q.bank == b) ≡ false → blocks_taken 512 b q ≡ 0
taken-none b q other = ap (λ t. cond (t && is_array q) (blocks_for 512 q.length) 0) other

none-taken : (b : ℕ) (places : List Place)
    → AllByRecursion (λ q. (q.bank == b) ≡ false) places → sum_by (blocks_taken 512 b) places ≡ 0
none-taken b [] others = refl
none-taken b (q ∷ places) others =
    sum_by-cons (blocks_taken 512 b) q places
    ∙ ap₂ (λ (m n : ℕ). m + n) (taken-none b q others.0) (none-taken b places others.1)

first-low : (b : ℕ) → first_block b ≤ 1
first-low b = by (nat_le 2 b)
  where
    by : (t : Bool) → cond t 0 1 ≤ 1
    by true = omega arith
    by false = omega arith

some-most : (b : ℕ) → 1 ≤ most_blocks b
some-most b = by (nat_lt b 2)
  where
    by : (t : Bool) → 1 ≤ cond t 65536 4096
    by true = omega arith
    by false = omega arith

-- each bank needs few blocks; those past the last need none
pub sample_needs : (n b : ℕ) → n ≤ 65536 → blocks_needed (sample_program n) 9 b ≤ most_blocks b
unfolding places_behind
sample_needs n zero few = omega arith
sample_needs n (suc zero) few = omega (arith, few)
sample_needs n (suc (suc zero)) few = omega arith
sample_needs n (suc (suc (suc b))) few =
    let bank = suc (suc (suc b)) in
    let other : (k : ℕ) → k < 3 → (k == bank) ≡ false = λ k low. ne_eqb k bank (λ e. omega (arith, e, low)) in
    let none : sum_by (blocks_taken 512 bank) (places_of (sample_program n) 9) ≡ 0 =
    none-taken bank (places_of (sample_program n) 9)
    (other 0 (omega arith), (other 1 (omega arith), (other 2 (omega arith), (other 1 (omega arith), tt)))) in
    subst (λ m. first_block bank + m ≤ most_blocks bank) (sym none) (omega (arith, first-low bank, some-most bank))

-- and has room
pub sample_fits : (n : ℕ) → n ≤ 65536 → Fits (sample_program n) 9
sample_fits n few = record {
  scalars = record { public = omega arith; secret = omega arith };
  banks = λ b within. sample_needs n b few;
}

-- ---- the banks with `--fast`

-- arrays that found no room take no more blocks than all of their class
blocks-left : (size : ℕ) (c : Class) (room : ℕ) (vs : List Want)
    → blocks_of_all size (left_out c room vs) ≤ sum_by (λ v. cond (is_of c v) (blocks_for size v.words) 0) vs
blocks-left size c room [] = omega arith
blocks-left size c room (v ∷ vs) =
    subst (λ n. blocks_of_all size (left_out c room (v ∷ vs)) ≤ n)
    (sym (sum_by-cons (λ (w : Want). cond (is_of c w) (blocks_for size w.words) 0) v vs))
    (by (is_of c v) (nat_le v.words room) (blocks-left size c (room - v.words) vs) (blocks-left size c room vs))
  where
    by : (is shared : Bool)
        → blocks_of_all size (left_out c (room - v.words) vs)
        ≤ sum_by (λ v. cond (is_of c v) (blocks_for size v.words) 0) vs
        → blocks_of_all size (left_out c room vs)
        ≤ sum_by (λ v. cond (is_of c v) (blocks_for size v.words) 0) vs
        → blocks_of_all size (cond is (cond shared (left_out c (room - v.words) vs) (v ∷ left_out c room vs))
        (left_out c room vs))
        ≤ cond is (blocks_for size v.words) 0 + sum_by (λ v. cond (is_of c v) (blocks_for size v.words) 0) vs
    by true true taken left = omega (arith, taken)
    by true false taken left =
        let first = sum_by-cons (λ (w : Want). blocks_for size w.words) v (left_out c room vs) in
        omega (arith, left, first)
    by false shared taken left = omega (arith, left)

none-without : (size n : ℕ) → without_short size n [] ≡ []
none-without size zero = refl
none-without size (suc n) = refl

-- The counts share the block of the secret scalars, so no array needs an oblivious bank or a slot of its own.
pub resident_needs : (n b : ℕ) → n ≤ 65536
    → resident_blocks 512 (wants_of (sample_program n)) b ≤ most_blocks b
resident_needs n zero few = omega arith
resident_needs n (suc zero) few =
    let all = wants_of (sample_program n) in
    let own : own_secret 512 all ≡ 0 = min-zero (own_most 512 all ObliviousArray) in
    let left = blocks-left 512 EncryptedArray (room_for 512 all EncryptedArray) all in
    omega (arith, few, own, left)
resident_needs n (suc (suc b)) few =
    let all = wants_of (sample_program n) in
    subst (λ vs. blocks_in_turn 512 (suc (suc b) - 2) 0 vs ≤ most_blocks (suc (suc b)))
    (sym (none-without 512 (own_most 512 all ObliviousArray))) (omega arith)
