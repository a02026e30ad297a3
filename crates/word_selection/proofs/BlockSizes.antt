-- Blocks of the machine's sizes have masks for the first words of up to eight blocks.
use Rattle.std.proofs.Common.{◌≡◌, ℕ, ◌+◌, ◌-◌, ◌*◌, ◌%◌, ◌^◌, ◌<◌, ◌≤◌, sym, ap, ◌∙◌, subst, ⊎_elim, arith, pow_mono}
use Rattle.std.proofs.lemmas.Bool.{cases_lt}
use Rattle.std.proofs.lemmas.Nat.{pow_pos, pow-add}
use Rattle.std.proofs.Math.Nat.{mul-le-mul_right, mul_left_comm}
use Rattle.word_selection.proofs.MaskWords.{shift_of}
use Rattle.word_selection.proofs.Reading.{AreMasked}

-- the places that a mask is shifted, for blocks of at least 8 or 16 words
eights : (q : ℕ) → 1 ≤ q → 7 ≤ (8 * q - 1) % 64
eights q some = omega arith

sixteens : (q : ℕ) → 1 ≤ q → 15 ≤ (16 * q - 1) % 64
sixteens q some = omega arith

module _ (log count : ℕ) (low : 3 ≤ log) (high : log ≤ 9) (few : count ≤ 8) where
  most : count * 2 ^ log ≤ 8 * 2 ^ log
  most = mul-le-mul_right {m = count} {n = 8} (2 ^ log) few

  largest : 2 ^ log ≤ 2 ^ 9
  largest = pow_mono {i = log} {j = 9} high

  some-words : (i : ℕ) → 1 ≤ i → 1 ≤ i * 2 ^ log
  some-words i least =
      let once : 1 * 2 ^ log ≤ i * 2 ^ log = mul-le-mul_right {m = 1} {n = i} (2 ^ log) least in
      omega (arith, once, pow_pos log)

  -- a multiple of the size is one of each smaller power of two
  multiple : (j i : ℕ) → j ≤ log → i * 2 ^ log ≡ 2 ^ j * (i * 2 ^ (log - j))
  multiple j i le =
      let split : log ≡ j + (log - j) = omega arith in
      ap (λ l. i * 2 ^ l) split ∙ ap (λ w. i * w) (pow-add 2 j (log - j)) ∙ mul_left_comm i (2 ^ j) (2 ^ (log - j))

  shifted : (i : ℕ) → 1 ≤ i → count * 2 ^ log ≤ 2 ^ shift_of (i * 2 ^ log)
  shifted i least =
      let some = some-words i least in
      ⊎_elim
      (λ (more : 3 < log).
      let same : i * 2 ^ log ≡ 16 * (i * 2 ^ (log - 4)) = multiple 4 i (omega arith) in
      let places : 15 ≤ shift_of (i * 2 ^ log) =
      subst (λ (x : ℕ). 15 ≤ (x - 1) % 64) (sym same) (sixteens (i * 2 ^ (log - 4)) (omega (arith, some, same))) in
      let enough : 2 ^ 15 ≤ 2 ^ shift_of (i * 2 ^ log) = pow_mono {i = 15} {j = shift_of (i * 2 ^ log)} places in
      omega (arith, most, largest, enough))
      (λ (only : log ≤ 3).
      let same : i * 2 ^ log ≡ 8 * (i * 2 ^ (log - 3)) = multiple 3 i low in
      let places : 7 ≤ shift_of (i * 2 ^ log) =
      subst (λ (x : ℕ). 7 ≤ (x - 1) % 64) (sym same) (eights (i * 2 ^ (log - 3)) (omega (arith, some, same))) in
      let enough : 2 ^ 7 ≤ 2 ^ shift_of (i * 2 ^ log) = pow_mono {i = 7} {j = shift_of (i * 2 ^ log)} places in
      let small : 2 ^ log ≤ 2 ^ 3 = pow_mono {i = log} {j = 3} only in
      omega (arith, most, small, enough))
      (cases_lt 3 log)

  pub sizes-masked : AreMasked (2 ^ log) (count * 2 ^ log)
  sizes-masked = record {
    least = pow_pos log;
    small = omega (arith, most, largest);
    shifts = λ i least le. shifted i least;
  }
