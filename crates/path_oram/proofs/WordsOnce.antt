-- No word is read twice: each access removes one word from the table of the blocks' next words, and adds the word that
-- it draws.
use Rattle.std.proofs.Common.{◌≡◌, ℕ, zero, suc, ◌+◌, ◌<◌, ◌≤◌, List, [], ◌∷◌, ◌++◌, length, map, reverse, cond, eqb, true, false, refl, sym, ap, subst, ◌∙◌, arith, ⊎_elim, append_assoc}
use Rattle.std.specs.List.{All, range_with_len}
use Rattle.std.specs.List.Sorted.{IsPermutation}
use Rattle.std.proofs.lemmas.Bool.{cases_eq, cases_Bool, eq-eqb, eqb-true}
use Rattle.std.proofs.lemmas.List.{append-nil, reverse-append}
use Rattle.std.proofs.lemmas.List.Sorted.{IsPermutation-refl, IsPermutation-trans, IsPermutation-append_left, IsPermutation-cons, IsPermutation-middle}
use Rattle.path_oram.specs.Prelude.{read_word_number, words_read_after, words_read, EachWordOnce}
use Rattle.path_oram.proofs.Moves.{exchanged}

-- a function that has another value at one number
abbrev pub instead : (ℕ → ℕ) → ℕ → ℕ → ℕ → ℕ
instead f block word k = cond (eqb block k) word (f k)

pub instead_past : (f : ℕ → ℕ) (block word first n : ℕ) → block < first
    → map (instead f block word) (range_with_len first n) ≡ map f (range_with_len first n)
instead_past f block word first zero past = refl
instead_past f block word first (suc n) past =
    let other : eqb block first ≡ false = ⊎_elim (λ same. absurd (omega (arith, eqb-true block first same, past)))
    (λ differs. differs) (cases_Bool (eqb block first)) in
    rw (other, instead_past f block word (first + 1) n (omega arith)) refl

-- one word is added, and another is removed
pub instead_moves :
    (f : ℕ → ℕ) (block word first n : ℕ) → first ≤ block → block < first + n
    → IsPermutation (word ∷ map f (range_with_len first n))
    (f block ∷ map (instead f block word) (range_with_len first n))
instead_moves f block word first zero low high = absurd (omega arith)
instead_moves f block word first (suc n) low high =
    let rest = map f (range_with_len (first + 1) n) in
    let changed = map (instead f block word) (range_with_len (first + 1) n) in
    ⊎_elim
    (λ same.
    let hit : eqb block first ≡ true = eq-eqb block first same in
    rw (hit, instead_past f block word (first + 1) n (omega arith))
    (subst (λ k. IsPermutation (word ∷ f first ∷ rest) (f k ∷ word ∷ rest)) (sym same)
    (exchanged (word ∷ []) (f first ∷ []) rest)))
    (λ differs.
    let missed : eqb block first ≡ false = ⊎_elim (λ e. absurd (differs (eqb-true block first e))) (λ d. d)
    (cases_Bool (eqb block first)) in
    rw missed
    (IsPermutation-trans (word ∷ f first ∷ rest) (f first ∷ word ∷ rest) (f block ∷ f first ∷ changed)
    (exchanged (word ∷ []) (f first ∷ []) rest)
    (IsPermutation-trans (f first ∷ word ∷ rest) (f first ∷ f block ∷ changed) (f block ∷ f first ∷ changed)
    (IsPermutation-cons (f first) (word ∷ rest) (f block ∷ changed)
    (instead_moves f block word (first + 1) n (omega arith) (omega arith)))
    (exchanged (f first ∷ []) (f block ∷ []) changed))))
    (cases_eq block first)

abbrev pub next_after : ℕ → List ℕ → List ℕ
next_after count earlier = map (read_word_number count earlier) (range_with_len 0 count)

pub once_after :
    (count : ℕ) (earlier blocks : List ℕ) → All (λ block. block < count) blocks
    → IsPermutation
    (next_after count earlier ++ range_with_len (count + length earlier) (length blocks))
    (words_read_after count earlier blocks ++ next_after count (reverse blocks ++ earlier))
once_after count earlier [] exist = rw append-nil (IsPermutation-refl (next_after count earlier))
once_after count earlier (block ∷ blocks) exist =
    let word = count + length earlier in
    let now = next_after count earlier in
    let then = next_after count (block ∷ earlier) in
    let drawn = range_with_len (word + 1) (length blocks) in
    let number = read_word_number count earlier block in
    let read = words_read_after count (block ∷ earlier) blocks in
    let last = next_after count (reverse blocks ++ (block ∷ earlier)) in
    let within : block < count = exist 0 0 (omega arith) in
    let sum : count + suc (length earlier) ≡ word + 1 = omega arith in
    let turned : reverse blocks ++ (block ∷ earlier) ≡ reverse (block ∷ blocks) ++ earlier =
    sym (append_assoc (reverse blocks) (block ∷ []) earlier)
    ∙ ap (λ l. l ++ earlier) (sym (reverse-append (block ∷ []) blocks)) in
    let later : IsPermutation (then ++ drawn) (read ++ last) =
    subst (λ n. IsPermutation (then ++ range_with_len n (length blocks)) (read ++ last)) sum
    (once_after count (block ∷ earlier) blocks (λ k d less. exist (suc k) d (omega arith))) in
    let moved : IsPermutation (word ∷ now) (number ∷ then) =
    instead_moves (read_word_number count earlier) block word 0 count (omega arith) (omega (arith, within)) in
    subst (λ e. IsPermutation (now ++ word ∷ drawn) (number ∷ (read ++ next_after count e))) turned
    (IsPermutation-trans (now ++ word ∷ drawn) (word ∷ (now ++ drawn)) (number ∷ (read ++ last))
    (IsPermutation-middle now word drawn)
    (IsPermutation-trans (word ∷ (now ++ drawn)) (number ∷ (then ++ drawn)) (number ∷ (read ++ last))
    (IsPermutation-append_left drawn (word ∷ now) (number ∷ then) moved)
    (IsPermutation-cons number (then ++ drawn) (read ++ last) later)))

-- at first each block would read its own word
pub own_words_from : (count first n : ℕ) → map (read_word_number count []) (range_with_len first n)
    ≡ range_with_len first n
own_words_from count first zero = refl
own_words_from count first (suc n) = ap (λ l. first ∷ l) (own_words_from count (first + 1) n)

-- a range in two parts
pub range_split : (first n m : ℕ)
    → range_with_len first (n + m) ≡ range_with_len first n ++ range_with_len (first + n) m
range_split first zero m =
    let none : zero + m ≡ m = omega arith in let same : first + zero ≡ first = omega arith in rw (none, same) refl
range_split first (suc n) m =
    let next : suc n + m ≡ suc (n + m) = omega arith in
    let sum : first + 1 + n ≡ first + suc n = omega arith in
    rw next (ap (λ l. first ∷ l)
    (subst (λ k. range_with_len (first + 1) (n + m) ≡ range_with_len (first + 1) n ++ range_with_len k m) sum
    (range_split (first + 1) n m)))

-- each random word is used once
pub each_word_once : EachWordOnce
unfolding words_read
each_word_once count blocks exist =
    let start : 0 + count ≡ count + 0 = omega arith in
    let whole : range_with_len 0 (count + length blocks) ≡ next_after count [] ++ range_with_len (count + 0)
    (length blocks) =
    range_split 0 count (length blocks)
    ∙ ap (λ k. range_with_len 0 count ++ range_with_len k (length blocks)) start
    ∙ ap (λ l. l ++ range_with_len (count + 0) (length blocks)) (sym (own_words_from count 0 count)) in
    let turned : reverse blocks ++ [] ≡ reverse blocks = append-nil (reverse blocks) in
    rw whole (subst (λ e. IsPermutation (next_after count [] ++ range_with_len (count + 0) (length blocks))
    (words_read_after count [] blocks ++ next_after count e)) turned (once_after count [] blocks exist))
