-- At the start each variable has its inputs' words, and every other word is 0.
use Rattle.std.proofs.Common.{◌≡◌, ℕ, zero, suc, ◌+◌, ◌-◌, ◌*◌, ◌<◌, ◌≤◌, Bool, true, false, cond, ℤ, pos, List, [], ◌∷◌, ◌++◌, length, map, get_or, All, refl, sym, ap, ◌∙◌, arith}
use Rattle.std.proofs.lemmas.List.FromFn.{fill_by_all}
use Rattle.std.proofs.lemmas.List.Elements.{All-head, All-tail}
use Rattle.gr_word.specs.Prelude.{FitsWants}
use Rattle.gr_base.specs.Prelude.{EachAfter}
use Rattle.gr_base.proofs.AtLast.{at_last-push}
use Rattle.gr_base.proofs.EachAfter.{EachAfter-at}
use Rattle.lt_isa.specs.declared.profiles.BankSpec.{BankSpec}
use Rattle.lt_isa.specs.declared.symbols.Symbol.{Symbol}
use Rattle.lt_isa.specs.Prelude.{Parts, block_words, blocks_of, first_word, end_word, bank_word_numbered, symbol_word, symbol_words, outputs, IsInRange, SymbolFits, last_bank, last_end, want_of, FitsObject, covers, start_word, start_state}
use Rattle.lt_isa.proofs.StartWords.{covers-takes, takes-covers, bank_word-start}

-- inputs that fit have one list for each variable
pub fitting-count : (symbols : List Symbol) (inputs : List (List ℤ))
    → FitsWants (map want_of symbols) inputs → length inputs ≡ length symbols
fitting-count [] [] fits = refl
fitting-count [] (words ∷ inputs) fits = absurd fits
fitting-count (s ∷ symbols) [] fits = absurd fits
fitting-count (s ∷ symbols) (words ∷ inputs) fits = ap suc (fitting-count symbols inputs fits.2)

pub fitting-length : (symbols : List Symbol) (inputs : List (List ℤ)) → FitsWants (map want_of symbols) inputs
    → (k : ℕ) (d : Symbol) → k < length symbols → length (get_or inputs k []) ≡ (get_or symbols k d).length
fitting-length [] inputs fits k d exists = absurd (omega arith)
fitting-length (s ∷ symbols) [] fits k d exists = absurd fits
fitting-length (s ∷ symbols) (words ∷ inputs) fits zero d exists = fits.0
fitting-length (s ∷ symbols) (words ∷ inputs) fits (suc k) d exists =
    fitting-length symbols inputs fits.2 k d (omega arith)

-- a variable ends before another begins, or is in an earlier bank
record LiesBefore (w : ℕ) (t s : Symbol) : Type 0 where
  bank : t.bank ≤ s.bank
  apart : t.bank ≡ s.bank → end_word w t ≤ first_word w s

lies_first : (w : ℕ) (banks : List BankSpec) (t : Symbol) (before : List Symbol) (s : Symbol)
    → SymbolFits w banks before s → t.bank ≤ last_bank before
    → (t.bank ≡ last_bank before → end_word w t ≤ last_end w before) → LiesBefore w t s
lies_first w banks t before s fits bank apart = record {
  bank = omega (arith, bank, fits.lies.order);
  apart = λ same.
      let last : t.bank ≡ last_bank before = omega (arith, bank, fits.lies.order, same) in
      omega (arith, apart last, fits.lies.apart (sym same ∙ last));
}

-- a variable is before each of those that follow it
lies_before : (w : ℕ) (banks : List BankSpec) (t : Symbol) (before symbols : List Symbol)
    → EachAfter (SymbolFits w banks) before symbols → t.bank ≤ last_bank before
    → (t.bank ≡ last_bank before → end_word w t ≤ last_end w before)
    → (k : ℕ) (d : Symbol) → k < length symbols → LiesBefore w t (get_or symbols k d)
lies_before w banks t before [] each bank apart k d within = absurd (omega arith)
lies_before w banks t before (s ∷ symbols) each bank apart zero d within =
    lies_first w banks t before s each.0 bank apart
lies_before w banks t before (s ∷ symbols) each bank apart (suc k) d within =
    let lies = lies_first w banks t before s each.0 bank apart in
    lies_before w banks t (before ++ s ∷ []) symbols each.1
    (omega (arith, lies.bank, at_last-push (λ s. s.bank) before s))
    (λ same.
    let here = lies.apart (same ∙ at_last-push (λ s. s.bank) before s) in
    omega (arith, here, at_last-push (end_word w) before s))
    k d (omega arith)

-- a word of a symbol is read from the symbol's own inputs, and not from those of a symbol before it
own_here : (w : ℕ) (s : Symbol) (words : List ℤ) (rest : ℤ) (i : ℕ) → covers w s s.bank (first_word w s + i) ≡ true
    → cond (covers w s s.bank (first_word w s + i)) (get_or words (first_word w s + i - first_word w s) (pos 0)) rest
    ≡ get_or words i (pos 0)
own_here w s words rest i is =
    let back : first_word w s + i - first_word w s ≡ i = omega arith in
    ap (λ c. cond c (get_or words (first_word w s + i - first_word w s) (pos 0)) rest) is
    ∙ ap (λ n. get_or words n (pos 0)) back

own_behind : (w : ℕ) (s t : Symbol) (words : List ℤ) (i : ℕ) {rest own : ℤ} → LiesBefore w s t → rest ≡ own
    → (c : Bool) → covers w s t.bank (first_word w t + i) ≡ c
    → cond (covers w s t.bank (first_word w t + i)) (get_or words (first_word w t + i - first_word w s) (pos 0)) rest
    ≡ own
own_behind w s t words i lies same true is =
    let takes = covers-takes w s t.bank (first_word w t + i) is in
    absurd (omega (arith, takes.before, lies.apart takes.bank_is))
own_behind w s t words i {rest} lies same false is =
    ap (λ c. cond c (get_or words (first_word w t + i - first_word w s) (pos 0)) rest) is ∙ same

-- the word of a variable at the start is its inputs' word
start_word-own : (w : ℕ) (banks : List BankSpec) (before symbols : List Symbol) (inputs : List (List ℤ))
    → EachAfter (SymbolFits w banks) before symbols → FitsWants (map want_of symbols) inputs
    → (k i : ℕ) (d : Symbol) → k < length symbols → i < (get_or symbols k d).length
    → start_word w symbols inputs (get_or symbols k d).bank (first_word w (get_or symbols k d) + i)
    ≡ get_or (get_or inputs k []) i (pos 0)
unfolding start_word
start_word-own w banks before [] inputs each fits k i d exists within = absurd (omega arith)
start_word-own w banks before (s ∷ symbols) [] each fits k i d exists within = absurd fits
start_word-own w banks before (s ∷ symbols) (words ∷ inputs) each fits zero i d exists within =
    own_here w s words (start_word w symbols inputs s.bank (first_word w s + i)) i
    (takes-covers w s s.bank (first_word w s + i)
    (record { bank_is = refl; behind = omega arith; before = omega (arith, within) }))
start_word-own w banks before (s ∷ symbols) (words ∷ inputs) each fits (suc k) i d exists within =
    own_behind w s (get_or symbols k d) words i (lies_before w banks s (before ++ s ∷ []) symbols each.1
    (omega (arith, at_last-push (λ s. s.bank) before s))
    (λ same. omega (arith, at_last-push (end_word w) before s)) k d (omega arith))
    (start_word-own w banks (before ++ s ∷ []) symbols inputs each.1 fits.2 k i d (omega arith) within)
    (covers w s (get_or symbols k d).bank (first_word w (get_or symbols k d) + i)) refl

-- two lists of words for variables are equal if they are equal for each variable
each_list : (words_of : Symbol → List ℤ) (symbols : List Symbol) (inputs : List (List ℤ))
    → FitsWants (map want_of symbols) inputs
    → ((k : ℕ) (d : Symbol) → k < length symbols → words_of (get_or symbols k d) ≡ get_or inputs k [])
    → map words_of symbols ≡ inputs
each_list words_of [] [] fits each = refl
each_list words_of [] (words ∷ inputs) fits each = absurd fits
each_list words_of (s ∷ symbols) [] fits each = absurd fits
each_list words_of (s ∷ symbols) (words ∷ inputs) fits each =
    ap (λ list. list ∷ map words_of symbols) (each 0 s (omega arith))
    ∙ ap (λ lists. words ∷ lists)
    (each_list words_of symbols inputs fits.2 (λ k d within. each (suc k) d (omega arith)))

-- the outputs of the start are the inputs
pub starts_with_inputs : (o : Parts) → IsInRange o → (inputs : List (List ℤ)) → FitsObject o inputs
    → outputs o (start_state o inputs) ≡ inputs
unfolding outputs symbol_words
starts_with_inputs o range inputs fits = each_list (symbol_words o (start_state o inputs)) o.symbols inputs fits words
  where
    word : (k : ℕ) (d : Symbol) → k < length o.symbols → (i : ℕ) → i < (get_or o.symbols k d).length
        → symbol_word o (start_state o inputs) (get_or o.symbols k d) i ≡ get_or (get_or inputs k []) i (pos 0)
    word k d exists i within =
        let s = get_or o.symbols k d in
        let lies = (EachAfter-at (SymbolFits (block_words o) o.banks) [] o.symbols range.symbols k d exists).lies in
        bank_word-start o inputs s.bank (first_word (block_words o) s + i) lies.bank
        (omega (arith, lies.inside, within))
        ∙ start_word-own (block_words o) o.banks [] o.symbols inputs range.symbols fits k i d exists within

    words : (k : ℕ) (d : Symbol) → k < length o.symbols
        → symbol_words o (start_state o inputs) (get_or o.symbols k d) ≡ get_or inputs k []
    words k d exists =
        sym
        (fill_by_all (symbol_word o (start_state o inputs) (get_or o.symbols k d)) (get_or inputs k [])
        (get_or o.symbols k d).length (pos 0) (fitting-length o.symbols inputs fits k d exists)
        (λ i within. sym (word k d exists i within)))

-- a word that no variable takes is 0
start_word-untaken : (w : ℕ) (symbols : List Symbol) (inputs : List (List ℤ)) (b i : ℕ)
    → All (λ s. covers w s b i ≡ false) symbols → start_word w symbols inputs b i ≡ pos 0
unfolding start_word
start_word-untaken w [] inputs b i free = refl
start_word-untaken w (s ∷ symbols) [] b i free = refl
start_word-untaken w (s ∷ symbols) (words ∷ inputs) b i free =
    ap (λ c. cond c (get_or words (i - first_word w s) (pos 0)) (start_word w symbols inputs b i))
    (All-head (λ s. covers w s b i ≡ false) s symbols free)
    ∙ start_word-untaken w symbols inputs b i (All-tail (λ s. covers w s b i ≡ false) s symbols free)

-- every word that no variable takes is 0 at the start
pub starts_with_zeros : (o : Parts) (inputs : List (List ℤ)) (b i : ℕ) → b < length o.banks
    → i < blocks_of o b * block_words o → All (λ s. covers (block_words o) s b i ≡ false) o.symbols
    → bank_word_numbered (block_words o) (start_state o inputs) b i ≡ pos 0
starts_with_zeros o inputs b i exists within free =
    bank_word-start o inputs b i exists within ∙ start_word-untaken (block_words o) o.symbols inputs b i free
