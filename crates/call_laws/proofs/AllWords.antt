-- The lists of all words: each list of that length is there, and once.
use Rattle.std.proofs.Common.{◌≡◌, ℕ, zero, suc, ◌+◌, ◌<◌, ◌≤◌, inl, inr, List, [], ◌∷◌, length, map, refl, sym, ap, ◌∙◌, subst, arith}
use Rattle.std.specs.List.{All, range_with_len}
use Rattle.std.proofs.lemmas.Bool.{cases_lt}
use Rattle.std.proofs.lemmas.List.Elements.{All-cons, All-nil, All-head, All-tail}
use Rattle.call_laws.specs.Counting.{all_words}
use Rattle.call_laws.proofs.Members.{Apart, Has, apart-flat, apart-map, flat-has, has-flat, has-map, map-has}

range-has : (a n x : ℕ) → Has (range_with_len a n) x → (a ≤ x) × (x < a + n)
range-has a zero x has = absurd has
range-has a (suc n) x (inl is) = (omega (arith, is), omega (arith, is))
range-has a (suc n) x (inr later) = let rest = range-has (a + 1) n x later in
    (omega (arith, rest.0), omega (arith, rest.1))

has-range : (a n x : ℕ) → a ≤ x → x < a + n → Has (range_with_len a n) x
has-range a zero x low high = absurd (omega (arith, low, high))
has-range a (suc n) x low high = elim (cases_lt a x) [
  | inl less ↦ inr (has-range (a + 1) n x (omega (arith, less)) (omega (arith, high)))
  | inr not-less ↦ inl (omega (arith, low, not-less))
]

range-apart : (a n : ℕ) → Apart (range_with_len a n)
range-apart a zero = tt
range-apart a (suc n) = (λ has. omega (arith, (range-has (a + 1) n a has).0), range-apart (a + 1) n)

head-of : List ℕ → ℕ
head-of [] = 0
head-of (x ∷ xs) = x

tail-of : List ℕ → List ℕ
tail-of [] = []
tail-of (x ∷ xs) = xs

abbrev with_first : ℕ → List ℕ → List (List ℕ)
with_first most words = map (λ word. word ∷ words) (range_with_len 0 most)

first-has : (most : ℕ) (words list : List ℕ) → Has (with_first most words) list
    → (word : ℕ) × (word < most) × (word ∷ words ≡ list)
first-has most words list has =
    let from = map-has (λ word. word ∷ words) (range_with_len 0 most) list has in
    (from.0, omega (arith, (range-has 0 most from.0 from.1).1), from.2)

-- the lists have that length, of words below that
pub words-of : (most n : ℕ) (words : List ℕ) → Has (all_words most n) words
    → (length words ≡ n) × All (λ word. word < most) words
words-of most zero words (inl is) =
    subst (λ list. (length list ≡ 0) × All (λ word. word < most) list) is (refl, All-nil (λ word. word < most))
words-of most zero words (inr never) = absurd never
words-of most (suc n) words has =
    let from = flat-has (with_first most) (all_words most n) words has in
    let rest = words-of most n from.0 from.1 in
    let first = first-has most from.0 words from.2 in
    subst (λ list. (length list ≡ suc n) × All (λ word. word < most) list) first.2
    (ap suc rest.0, All-cons (λ word. word < most) first.0 from.0 first.1 rest.1)

-- and all of these are there
pub are-words : (most n : ℕ) (words : List ℕ) → length words ≡ n → All (λ word. word < most) words
    → Has (all_words most n) words
are-words most zero [] size below = inl refl
are-words most zero (word ∷ words) size below = absurd (omega (arith, size))
are-words most (suc n) [] size below = absurd (omega (arith, size))
are-words most (suc n) (word ∷ words) size below =
    has-flat (with_first most) (all_words most n) words (word ∷ words)
    (are-words most n words (omega (arith, size)) (All-tail (λ w. w < most) word words below))
    (has-map (λ w. w ∷ words) (range_with_len 0 most) word
    (has-range 0 most word (omega arith) (omega (arith, All-head (λ w. w < most) word words below))))

-- each once
pub words-apart : (most n : ℕ) → Apart (all_words most n)
unfolding head-of tail-of
words-apart most zero = (λ never. never, tt)
words-apart most (suc n) =
    apart-flat (with_first most) (all_words most n) (words-apart most n)
    (λ words. apart-map (λ word. word ∷ words) (range_with_len 0 most) (range-apart 0 most)
    (λ x z one two is. ap head-of is))
    (λ one two list here there.
    ap tail-of ((first-has most one list here).2 ∙ sym (first-has most two list there).2))
