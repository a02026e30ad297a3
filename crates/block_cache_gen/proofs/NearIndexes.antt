-- An index that is found or known to be below a length is its own remainder by that length.
use Rattle.std.proofs.Common.{◌≡◌, ℕ, suc, ◌+◌, ◌-◌, ◌%◌, ◌^◌, ◌<◌, ◌≤◌, true, false, ℤ, pos, negsuc, ◌+ℤ◌, sym, ap, ◌∙◌, arith, w64, int_lt, nat_lt, mod-eq_of_lt}
use Rattle.std.specs.Int.{cast_signed, int_wrap}
use Rattle.std.proofs.lemmas.Bool.{ltb-true, false≢true}
use Rattle.std.proofs.lemmas.Int.{ints, int_wrap_fits, to_z_pos}
use Rattle.gr_word.specs.Prelude.{IsWord, applied, compared, unsigned_of}
use Rattle.gr_word.specs.declared.operations.Op.TheVariants.{Add}
use Rattle.gr_word.specs.declared.operations.Cmp.TheVariants.{Lt}
use Rattle.block_cache_gen.specs.Prelude.{least_word}

-- 2^63 less than a word that isn't negative
lowered : (m : ℕ) → m < 2 ^ 63 → applied Add least_word (pos m) ≡ negsuc (9223372036854775807 - m)
lowered m fits =
    ap (int_wrap w64) (sum m (omega arith))
    ∙ int_wrap_fits w64 (negsuc (9223372036854775807 - m)) (record { sfits = omega arith })
  where
    sum : (m : ℕ) → m ≤ 9223372036854775807 → least_word +ℤ pos m ≡ negsuc (9223372036854775807 - m)
    sum m le = omega (arith, ints)

-- 2^63 less than a word that is negative: the sum wraps
raised : (m : ℕ) → m < 2 ^ 63 → applied Add least_word (negsuc m) ≡ pos (9223372036854775807 - m)
unfolding int_wrap
raised m fits =
    let rest : 2 ^ 64 - 1 - suc (9223372036854775807 + m) % 2 ^ 64 ≡ 9223372036854775807 - m = omega arith in
    ap (cast_signed w64) rest ∙ to_z_pos w64 (9223372036854775807 - m) (omega arith)

bound-is : (n : ℕ) → n < 2 ^ 62 → least_word +ℤ pos n ≡ negsuc (9223372036854775807 - n)
bound-is n small = omega (arith, ints)

-- an index that is known to be below a length
pub own-remainder : (index : ℤ) (n : ℕ) → IsWord index → n < 2 ^ 62 → unsigned_of index < n
    → pos (unsigned_of index % n) ≡ index
own-remainder (pos m) n fits small less = ap pos (mod-eq_of_lt less)
own-remainder (negsuc m) n fits small less =
    let few : m < 2 ^ 63 = fits.sfits in
    let most : 2 ^ 64 - suc m < n = less in
    absurd (omega (arith, few, most, small))

pub near-index : (index : ℤ) (n : ℕ) → IsWord index → n < 2 ^ 62
    → compared Lt (applied Add least_word index) (least_word +ℤ pos n) ≡ true → pos (unsigned_of index % n) ≡ index
near-index (pos m) n fits small test =
    let top : ℕ = 9223372036854775807 in
    let turned : nat_lt (top - n) (top - m) ≡ int_lt (applied Add least_word (pos m)) (least_word +ℤ pos n) =
    sym (ap (λ a. int_lt a (least_word +ℤ pos n)) (lowered m fits.sfits) ∙ ap (int_lt (negsuc (top - m)))
    (bound-is n small))
    in
    let below : top - n < top - m = ltb-true (top - n) (top - m) (turned ∙ test) in
    let less : m < n = omega (arith, fits.sfits) in
    ap pos (mod-eq_of_lt less)
near-index (negsuc m) n fits small test =
    let top : ℕ = 9223372036854775807 in
    let turned : false ≡ int_lt (applied Add least_word (negsuc m)) (least_word +ℤ pos n) =
    sym (ap (λ a. int_lt a (least_word +ℤ pos n)) (raised m fits.sfits) ∙ ap (int_lt (pos (top - m)))
    (bound-is n small))
    in
    absurd (false≢true (turned ∙ test))
