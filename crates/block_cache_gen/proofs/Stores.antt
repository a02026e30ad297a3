-- Stores with another word: they fit the homes as before; and an assignment leaves such a store.
use Rattle.std.proofs.Common.{◌≡◌, ◌≢◌, ℕ, ◌<◌, ℤ, pos, List, [], length, get_or, set, refl, sym, ap, ◌∙◌, subst, ⊎_elim}
use Rattle.std.proofs.lemmas.Bool.{cases_eq, cases_lt}
use Rattle.std.proofs.lemmas.List.{get_or-set_same, get_or-set_other, length-set, set-get_or, set_past}
use Rattle.std.proofs.lemmas.List.Elements.{All-set}
use Rattle.gr_word.specs.Prelude.{IsWord, AreWords}
use Rattle.src_tree.specs.Prelude.{Store, variable_number, words_of_number, with_word}
use Rattle.block_cache_gen.specs.declared.frames.Mode.{Mode}
use Rattle.block_cache_gen.specs.declared.frames.Mode.TheVariants.{Public, Real, Mirrored}
use Rattle.block_cache_gen.specs.Prelude.{Setting, home_of, FitsHomes, by_mode}

-- the words of another variable, and those of the variable itself
pub words-other : (store : Store) (k n j : ℕ) (word : ℤ)
    → j ≢ k → words_of_number (with_word store k n word) j ≡ words_of_number store j
words-other store k n j word other = get_or-set_other store k j (set (words_of_number store k) n word) [] other

-- the words of the variable to which a word was written
pub words-same : (store : Store) (k n : ℕ) (word : ℤ) → k < length store
    → words_of_number (with_word store k n word) k ≡ set (words_of_number store k) n word
words-same store k n word within = get_or-set_same store k (set (words_of_number store k) n word) [] within

-- what holds of each variable's words where it held before
words-each : (P : List ℤ → Type 0) (store : Store) (k n j : ℕ) (word : ℤ)
    → (P (words_of_number store j) → P (set (words_of_number store j) n word))
    → P (words_of_number store j) → P (words_of_number (with_word store k n word) j)
words-each P store k n j word changed was =
    ⊎_elim
    (λ same.
    ⊎_elim
    (λ within.
    subst P
    (ap (λ m. set (words_of_number store m) n word) same ∙ sym (words-same store k n word within)
    ∙ ap (λ m. words_of_number (with_word store k n word) m) (sym same))
    (changed was))
    (λ past.
    subst (λ s. P (words_of_number s j)) (sym (set_past store k (set (words_of_number store k) n word) past)) was)
    (cases_lt k (length store)))
    (λ other. subst P (sym (words-other store k n j word other)) was)
    (cases_eq j k)

-- a store with one word written fits the homes
pub fits-with_word : (f : Setting) (store : Store) (k n : ℕ) (word : ℤ) → IsWord word → FitsHomes f store
    → FitsHomes f (with_word store k n word)
fits-with_word f store k n word is fits = record {
  count = length-set store k (set (words_of_number store k) n word) ∙ fits.count;
  lengths = λ x label shape known.
      let j = variable_number f.decls x in
      words-each (λ words. length words ≡ (home_of f x).length) store k n j word
      (λ e. length-set (words_of_number store j) n word ∙ e)
      (fits.lengths x label shape known);
  all_words = λ j.
      words-each AreWords store k n j word
      (λ all. All-set IsWord (words_of_number store j) n word is all)
      (fits.all_words j);
}

-- a word that is written over itself changes nothing
pub with_word-itself : (store : Store) (k n : ℕ)
    → with_word store k n (get_or (words_of_number store k) n (pos 0)) ≡ store
with_word-itself store k n =
    ap (λ words. set store k words) (set-get_or (words_of_number store k) n (pos 0)) ∙ set-get_or store k []

-- what is left in each mode
pub with_word-by_mode : (mode : Mode) (store : Store) (k n : ℕ) (word : ℤ)
    → with_word store k n (by_mode mode word (get_or (words_of_number store k) n (pos 0)))
    ≡ by_mode mode (with_word store k n word) store
with_word-by_mode Public store k n word = refl
with_word-by_mode Real store k n word = refl
with_word-by_mode Mirrored store k n word = with_word-itself store k n
