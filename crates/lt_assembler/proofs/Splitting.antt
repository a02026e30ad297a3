-- The first line of a text.
use Rattle.std.proofs.Common.{◌≡◌, ℕ, zero, suc, ◌+◌, ◌<◌, Bool, true, false, not, eqb, List, [], ◌∷◌, length, take, drop, refl, ap, arith}
use Rattle.std.specs.List.{prefix_len, onto_first}
use Rattle.lt_assembler.specs.Prelude.{lines}

-- both results of a test
pub on_test : {P : Type 0} (b : Bool) → (b ≡ true → P) → (b ≡ false → P) → P
on_test true pass fail = pass refl
on_test false pass fail = fail refl

-- a byte other than the line feed
abbrev pub is_no_feed : ℕ → Bool
is_no_feed byte = not (eqb byte 10)

abbrev pub line_len : List ℕ → ℕ
line_len text = prefix_len is_no_feed text

-- one more, on either side
pub one_more : (n : ℕ) → 1 + n ≡ suc n
one_more n = omega arith

pub lines_first : (b : ℕ) (t : List ℕ)
    → lines (b ∷ t) ≡ take (line_len (b ∷ t)) (b ∷ t) ∷ lines (drop 1 (drop (line_len (b ∷ t)) (b ∷ t)))
unfolding lines
lines_first b [] = on_test (eqb b 10)
    (λ (blank : eqb b 10 ≡ true). rw blank refl)
    (λ (other : eqb b 10 ≡ false). rw other refl)
lines_first b (c ∷ t) = on_test (eqb b 10)
    (λ (blank : eqb b 10 ≡ true). rw blank refl)
    (λ (other : eqb b 10 ≡ false). rw (other, one_more (line_len (c ∷ t))) (ap (onto_first b) (lines_first c t)))

-- the first line of a text, and the rest
pub lines_front : (text : List ℕ)
    → 0 < length text → lines text ≡ take (line_len text) text ∷ lines (drop 1 (drop (line_len text) text))
lines_front [] some = absurd (omega arith)
lines_front (b ∷ t) some = lines_first b t

-- a number that isn't 0 is greater
pub positive : (n : ℕ) → eqb n 0 ≡ false → 0 < n
positive zero e = absurd (let bad : true ≡ false = e in cc)
positive (suc n) e = omega arith

-- the empty text has no line
pub lines_none : (text : List ℕ) → length text ≡ 0 → lines text ≡ []
unfolding lines
lines_none [] none = refl
lines_none (b ∷ t) none = absurd (omega arith)
