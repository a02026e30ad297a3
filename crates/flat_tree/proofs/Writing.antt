-- Words that are written twice, and terms that don't read a variable.
use Rattle.std.proofs.Common.{◌≡◌, ℕ, Bool, true, false, ◌||◌, if◌then◌else◌, List, ℤ, refl, ap, ◌∙◌}
use Rattle.std.specs.Prelude.{◌==◌}
use Rattle.std.proofs.Math.Path.{fun_ext}
use Rattle.module_tree.specs.Operators.{result, is_true}
use Rattle.flat_tree.specs.Trees.{Term, Number, Scalar, Element, Operation, Select}
use Rattle.flat_tree.specs.Meaning.{Memory, first_word, word_at, with_words, value}
use Rattle.flat_tree.specs.Keeps.{reads}

if_twice : (b : Bool) (w v u : List ℤ) → (if b then w else if b then v else u) ≡ (if b then w else u)
if_twice true w v u = refl
if_twice false w v u = refl

-- the words that were written last remain
pub written_twice : (m : Memory) (k : ℕ) (v w : List ℤ) → with_words (with_words m k v) k w ≡ with_words m k w
written_twice m k v w = fun_ext (λ j. if_twice (j == k) w v (m j))

unread : (m : Memory) (k j : ℕ) (w : List ℤ) → (j == k) ≡ false → with_words m k w j ≡ m j
unread m k j w e = ap (λ b. if b then w else m j) e

left_false : (a b : Bool) → (a || b) ≡ false → a ≡ false
left_false true b e = e
left_false false b e = refl

right_false : (a b : Bool) → (a || b) ≡ false → b ≡ false
right_false true b e = absurd (cc)
right_false false b e = e

-- a term that doesn't read a variable doesn't depend on it
pub value_unread : (m : Memory) (k : ℕ) (w : List ℤ) (e : Term) → reads k e ≡ false → value (with_words m k w) e ≡ value m e
value_unread m k w (Number z) none = refl
value_unread m k w (Scalar j) none = ap first_word (unread m k j w none)
value_unread m k w (Element j i) none =
    ap (λ ws. word_at ws (value (with_words m k w) i)) (unread m k j w (left_false (j == k) (reads k i) none))
    ∙ ap (word_at (m j)) (value_unread m k w i (right_false (j == k) (reads k i) none))
value_unread m k w (Operation operator a b) none =
    ap (λ z. result operator z (value (with_words m k w) b))
    (value_unread m k w a (left_false (reads k a) (reads k b) none))
    ∙ ap (result operator (value m a)) (value_unread m k w b (right_false (reads k a) (reads k b) none))
value_unread m k w (Select c a b) none =
    let rest = right_false (reads k c) (reads k a || reads k b) none in
    ap (λ z. if is_true z then value (with_words m k w) a else value (with_words m k w) b)
    (value_unread m k w c (left_false (reads k c) (reads k a || reads k b) none))
    ∙ ap (λ z. if is_true (value m c) then z else value (with_words m k w) b)
    (value_unread m k w a (left_false (reads k a) (reads k b) rest))
    ∙ ap (λ z. if is_true (value m c) then value m a else z)
    (value_unread m k w b (right_false (reads k a) (reads k b) rest))
