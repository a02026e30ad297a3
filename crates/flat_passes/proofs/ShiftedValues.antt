-- The operations that replace `>>>` have the same value.
use Rattle.std.proofs.Common.{◌≡◌, ℕ, ◌-◌, ◌%◌, ◌^◌, ◌<◌, ◌==◌, Bool, true, ℤ, negsuc, refl, ap, ◌∙◌, arith, w64}
use Rattle.std.specs.Int.{cast_signed, int_bit_xor, int_shl, int_shr}
use Rattle.std.specs.Int.Bits.{bit_and}
use Rattle.std.proofs.lemmas.Bool.{eqb-true}
use Rattle.std.proofs.lemmas.Nat.{and_mask}
use Rattle.gr_word.specs.declared.operations.Op.TheVariants.{Shr}
use Rattle.gr_word.specs.Prelude.{applied, unsigned_of}
use Rattle.module_tree.specs.Operators.{shifted_logically}
use Rattle.module_tree.proofs.TestedBelow.{all_below, tested}
use Rattle.flat_tree.specs.Trees.{Term}
use Rattle.flat_tree.specs.Meaning.{Memory, value}
use Rattle.flat_passes.specs.Shifts.{shifted}

-- the mask of each count
mask : ℕ → ℤ
mask n = int_bit_xor w64 (int_shl w64 (int_shr (negsuc 9223372036854775807) n) 1) (negsuc 0)

is_mask : ℕ → Bool
is_mask n = unsigned_of (mask n) == 2 ^ (64 - n) - 1

masks : all_below is_mask 64 ≡ true
unfolding is_mask mask
masks = refl

mask_of_count : (n : ℕ) → n < 64 → unsigned_of (mask n) ≡ 2 ^ (64 - n) - 1
unfolding is_mask
mask_of_count n few = eqb-true (unsigned_of (mask n)) (2 ^ (64 - n) - 1) (tested is_mask 64 n few masks)

pub shifted_value : (m : Memory) (a b : Term) → value m (shifted a b) ≡ shifted_logically (value m a) (value m b)
unfolding mask
shifted_value m a b =
    let n = unsigned_of (value m b) % 64 in
    let word = unsigned_of (applied Shr (value m a) (value m b)) in
    ap (λ x. cast_signed w64 (bit_and word x)) (mask_of_count n (omega arith))
    ∙ ap (cast_signed w64) (and_mask word (64 - n))
