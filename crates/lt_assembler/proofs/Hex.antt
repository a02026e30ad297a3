-- Numbers in hexadecimal digits.
use Rattle.std.proofs.Common.{◌≡◌, ℕ, zero, suc, ◌-◌, ◌/◌, ◌%◌, ◌<◌, [], ◌∷◌, ◌++◌, refl, arith}
use Rattle.lt_assembler.specs.Prelude.{hex_digit, hex_word}

-- one more digit
pub hex_more : (k n : ℕ) → 0 < k → hex_word k n ≡ hex_word (k - 1) (n / 16) ++ hex_digit (n % 16) ∷ []
unfolding hex_word
hex_more zero n h = absurd (omega arith)
hex_more (suc k) n h = let e : suc k - 1 ≡ k = omega arith in rw e refl
