-- What slots have after a word of one was written: they stay bound and have words, and a word that is written back changes
-- nothing.
use Rattle.std.proofs.Common.{◌≡◌, ◌≢◌, ℕ, ◌<◌, ◌≤◌, ◌%◌, ℤ, pos, List, length, refl, sym, ap, ◌∙◌, subst, ⊎_elim, arith, length-set}
use Rattle.std.specs.Prelude.{slice_set}
use Rattle.std.proofs.lemmas.Bool.{cases_lt, cases_eq}
use Rattle.std.proofs.lemmas.List.{get_or_past, get_or-set_same, get_or-set_other, set-get_or}
use Rattle.std.proofs.lemmas.List.Elements.{All-set}
use Rattle.gr_word.specs.Prelude.{IsWord, unsigned_of, AreWords}
use Rattle.lt_isa.specs.Prelude.{Slot, Unbound, Bound, slot_words}
use Rattle.lt_isa.proofs.Shapes.{IsWord-at}
use Rattle.word_selection.specs.Prelude.{IsBound, word_of, with_word, with_word_at, slot_at}

-- what is true of a slot, and is true of it with the word, is true of it after the word of any slot was written
slot-after : (P : Slot → Type 0) (size : ℕ) (slots : List Slot) (j k : ℕ) (at word : ℤ) → P (slot_at slots k)
    → P (with_word size (slot_at slots k) at word) → P (slot_at (with_word_at size slots j at word) k)
slot-after P size slots j k at word before written =
    let now = with_word size (slot_at slots j) at word in
    ⊎_elim
    (λ (same : k ≡ j).
    ⊎_elim
    (λ (inside : k < length slots).
    subst (λ i. P (slot_at (slice_set slots i (with_word size (slot_at slots i) at word)) k)) same
    (subst P (sym (get_or-set_same slots k (with_word size (slot_at slots k) at word) Unbound inside)) written))
    (λ (past : length slots ≤ k).
    subst P
    (get_or_past slots k Unbound past
    ∙ sym (get_or_past (slice_set slots j now) k Unbound (omega (arith, past, length-set slots j now))))
    before)
    (cases_lt k (length slots)))
    (λ (other : k ≢ j). subst P (sym (get_or-set_other slots j k now Unbound other)) before)
    (cases_eq k j)

word-bound : (size : ℕ) (x : Slot) (at word : ℤ) → IsBound x → IsBound (with_word size x at word)
word-bound size x at word bound = record {
  bank = bound.bank;
  block = bound.block;
  words = slice_set bound.words (unsigned_of at % size) word;
  is = ap (λ y. with_word size y at word) bound.is;
}

-- a slot that is bound stays bound
pub still-bound : (size : ℕ) (slots : List Slot) (j k : ℕ) (at word : ℤ) → IsBound (slot_at slots k)
    → IsBound (slot_at (with_word_at size slots j at word) k)
still-bound size slots j k at word bound =
    slot-after IsBound size slots j k at word bound (word-bound size (slot_at slots k) at word bound)

-- each slot has words
abbrev pub HaveWords : List Slot → Type 0
HaveWords slots = (k : ℕ) → AreWords (slot_words (slot_at slots k))

word-words : (size : ℕ) (x : Slot) (at word : ℤ) → IsWord word → AreWords (slot_words x)
    → AreWords (slot_words (with_word size x at word))
word-words size Unbound at word fits all = all
word-words size (Bound bank block words) at word fits all = All-set IsWord words (unsigned_of at % size) word fits all

pub still-words : (size : ℕ) (slots : List Slot) (j : ℕ) (at word : ℤ) → IsWord word → HaveWords slots
    → HaveWords (with_word_at size slots j at word)
still-words size slots j at word fits all k =
    slot-after (λ x. AreWords (slot_words x)) size slots j k at word (all k)
    (word-words size (slot_at slots k) at word fits (all k))

pub word-fits : (size : ℕ) (slots : List Slot) (k : ℕ) (at : ℤ) → HaveWords slots
    → IsWord (word_of size (slot_at slots k) at)
word-fits size slots k at all = IsWord-at (slot_words (slot_at slots k)) (all k) (unsigned_of at % size)

-- the word of a slot is written back
word-back : (size : ℕ) (x : Slot) (at : ℤ) → with_word size x at (word_of size x at) ≡ x
word-back size Unbound at = refl
word-back size (Bound bank block words) at = ap (Bound bank block) (set-get_or words (unsigned_of at % size) (pos 0))

pub written-back : (size : ℕ) (slots : List Slot) (k : ℕ) (at : ℤ)
    → with_word_at size slots k at (word_of size (slot_at slots k) at) ≡ slots
written-back size slots k at =
    ap (slice_set slots k) (word-back size (slot_at slots k) at) ∙ set-get_or slots k Unbound
