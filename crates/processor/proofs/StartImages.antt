-- How the words of a bank at the start are made: variables are written to their places, the last one first.
use Rattle.std.proofs.Common.{◌≡◌, ℕ, suc, ◌+◌, ◌-◌, ◌*◌, ◌/◌, ◌<◌, ◌≤◌, cond, ℤ, pos, List, [], ◌∷◌, length, get_or, drop, refl, sym, ap, ◌∙◌, subst, arith, drop-cons}
use Rattle.std.proofs.lemmas.List.{drop_all, get_or-take, get_or-drop}
use Rattle.std.proofs.lemmas.List.FromFn.{fill_by_all}
use Rattle.std.proofs.lemmas.Nat.{pow_pos}
use Rattle.std.proofs.Math.Nat.{mul-div_cancel}
use Rattle.gr_word.specs.Prelude.{words_at}
use Rattle.lt_isa.specs.declared.symbols.Symbol.{Symbol}
use Rattle.lt_isa.specs.Prelude.{Parts, block_words, blocks_of, first_word, end_word, IsInRange, SymbolFits, FitsObject, covers, start_word, start_block, start_bank}
use Rattle.lt_isa.proofs.StartOutputs.{fitting-count, fitting-length}
use Rattle.gr_base.proofs.EachAfter.{EachAfter-at}
use Rattle.banks.specs.Prelude.{Blocks, block_of_words, cut, filled_up, in_blocks, words_of_blocks}
use Rattle.banks.proofs.Blocks.{length-cut, block-cut, length-block_of_words, words_of_cut, length-filled_up, get_or-filled_up}
use Rattle.processor.specs.Prelude.{starting_bank}

-- some words, followed by zeros, once the variables from number k on were written there
abbrev pub IsFilled : ℕ → List Symbol → List (List ℤ) → ℕ → ℕ → List ℤ → Type 0
IsFilled w symbols inputs b k words =
    (i : ℕ) → get_or words i (pos 0) ≡ start_word w (drop k symbols) (drop k inputs) b i

-- those words, in a vector with room for this many words, of which no more are used
pub record IsFilling (w : ℕ) (symbols : List Symbol) (inputs : List (List ℤ)) (b k n : ℕ) (words : List ℤ)
    (room : ℕ) : Type 0 where
  pub filled : IsFilled w symbols inputs b k words
  pub within : length words ≤ n
  pub enough : n ≤ room

start_word-none : (w : ℕ) (inputs : List (List ℤ)) (b i : ℕ) → start_word w [] inputs b i ≡ pos 0
unfolding start_word
start_word-none w inputs b i = refl

start_word-first : (w : ℕ) (s : Symbol) (symbols : List Symbol) (words : List ℤ) (inputs : List (List ℤ)) (b i : ℕ)
    → start_word w (s ∷ symbols) (words ∷ inputs) b i
    ≡ cond (covers w s b i) (get_or words (i - first_word w s) (pos 0)) (start_word w symbols inputs b i)
unfolding start_word
start_word-first w s symbols words inputs b i = refl

-- no variable yet, and one more
pub IsFilled-none : (w : ℕ) (symbols : List Symbol) (inputs : List (List ℤ)) (b : ℕ) (words : List ℤ)
    → words ≡ [] → IsFilled w symbols inputs b (length symbols) words
IsFilled-none w symbols inputs b words none i =
    ap (λ list. get_or list i (pos 0)) none
    ∙ sym
    (ap (λ rest. start_word w rest (drop (length symbols) inputs) b i) (drop_all (length symbols) symbols (omega arith))
    ∙ start_word-none w _ b i)

pub IsFilled-more : (w : ℕ) (symbols : List Symbol) (inputs : List (List ℤ)) (b k : ℕ) (d : Symbol)
    (before words : List ℤ) → k < length symbols → k < length inputs → IsFilled w symbols inputs b (suc k) before
    → ((i : ℕ) → get_or words i (pos 0) ≡ cond (covers w (get_or symbols k d) b i)
    (get_or (get_or inputs k []) (i - first_word w (get_or symbols k d)) (pos 0)) (get_or before i (pos 0)))
    → IsFilled w symbols inputs b k words
IsFilled-more w symbols inputs b k d before words exists given filled placed i =
    placed i
    ∙ (ap (cond (covers w (get_or symbols k d) b i)
    (get_or (get_or inputs k []) (i - first_word w (get_or symbols k d)) (pos 0))) (filled i)
    ∙ (sym
    (start_word-first w (get_or symbols k d) (drop (suc k) symbols) (get_or inputs k []) (drop (suc k) inputs) b i)
    ∙ ap (λ rest. start_word w rest (get_or inputs k [] ∷ drop (suc k) inputs) b i) (sym (drop-cons symbols k d exists))
    ∙ ap (λ rest. start_word w (drop k symbols) rest b i) (sym (drop-cons inputs k [] given))))

-- a variable ends within its bank
pub symbol-inside : (o : Parts) → IsInRange o → (k : ℕ) (d : Symbol) → k < length o.symbols → (b : ℕ)
    → (get_or o.symbols k d).bank ≡ b → end_word (block_words o) (get_or o.symbols k d) ≤ blocks_of o b * block_words o
symbol-inside o fits k d exists b lies =
    subst (λ n. end_word (block_words o) (get_or o.symbols k d) ≤ blocks_of o n * block_words o) lies
    (EachAfter-at (SymbolFits (block_words o) o.banks) [] o.symbols fits.symbols k d exists).lies.inside

-- The same of a variable that was read from the object, where `left` variables were still to be copied.
module _ (o : Parts) (inputs : List (List ℤ)) (symbols : List Symbol) (same : symbols ≡ o.symbols) (left : ℕ)
    (some : 0 < left) (most : left ≤ length symbols) (s : Symbol) (read : s ≡ get_or symbols (left - 1) s) where
  exists : left - 1 < length o.symbols
  exists = omega (arith, ap length same)

  is_symbol : s ≡ get_or o.symbols (left - 1) s
  is_symbol = read ∙ ap (λ list. get_or list (left - 1) s) same

  -- a symbol's words are among the inputs
  pub has_words : FitsObject o inputs → left - 1 < length inputs
  has_words fits = omega (arith, exists, fitting-count o.symbols inputs fits)

  -- they are as many as the symbol has
  pub words-length : FitsObject o inputs → (from : List ℤ) → from ≡ words_at inputs (left - 1) → length from ≡ s.length
  words-length fits from is =
      ap length is
      ∙ (fitting-length o.symbols inputs fits (left - 1) s exists ∙ ap (λ symbol. symbol.length) (sym is_symbol))

  -- a symbol ends within its bank
  pub ends_inside : IsInRange o → (w b : ℕ) → w ≡ block_words o → s.bank ≡ b
      → end_word w s ≤ blocks_of o b * block_words o
  ends_inside fits w b width lies =
      rw width
      (subst (λ symbol. end_word (block_words o) symbol ≤ blocks_of o b * block_words o) (sym is_symbol)
      (symbol-inside o fits (left - 1) s exists b (ap (λ symbol. symbol.bank) (sym is_symbol) ∙ lies)))

  -- one symbol more is filled in
  pub filled_on : FitsObject o inputs → (w b : ℕ) (before words from : List ℤ) → w ≡ block_words o
      → from ≡ words_at inputs (left - 1) → IsFilled (block_words o) o.symbols inputs b left before
      → ((i : ℕ) → get_or words i (pos 0)
      ≡ cond (covers w s b i) (get_or from (i - first_word w s) (pos 0)) (get_or before i (pos 0)))
      → IsFilled (block_words o) o.symbols inputs b (left - 1) words
  filled_on fits w b before words from width is filled placed =
      IsFilled-more (block_words o) o.symbols inputs b (left - 1) s before words exists (has_words fits)
      (let one : left ≡ suc (left - 1) = omega arith in
      subst (λ n. IsFilled (block_words o) o.symbols inputs b n before) one filled)
      (λ i.
      placed i
      ∙ (ap (λ n. cond (covers n s b i) (get_or from (i - first_word n s) (pos 0)) (get_or before i (pos 0))) width
      ∙ (ap (λ list. cond (covers (block_words o) s b i) (get_or list (i - first_word (block_words o) s) (pos 0))
      (get_or before i (pos 0))) is
      ∙ ap (λ symbol. cond (covers (block_words o) symbol b i)
      (get_or (words_at inputs (left - 1)) (i - first_word (block_words o) symbol) (pos 0)) (get_or before i (pos 0)))
      is_symbol)))

-- The words at their places are those of the bank at the start, block by block and together.
block-filled : (o : Parts) (inputs : List (List ℤ)) (b : ℕ) (words : List ℤ)
    → length words ≡ blocks_of o b * block_words o → IsFilled (block_words o) o.symbols inputs b 0 words → (a : ℕ)
    → a < blocks_of o b → block_of_words (block_words o) words a ≡ start_block o inputs b a
unfolding start_block
block-filled o inputs b words size filled a exists =
    fill_by_all (λ i. start_word (block_words o) o.symbols inputs b (a * block_words o + i))
    (block_of_words (block_words o) words a) (block_words o) (pos 0)
    (length-block_of_words (block_words o) (blocks_of o b) words a size exists)
    (λ i within.
    get_or-take (block_words o) (drop (a * block_words o) words) i (pos 0) within
    ∙ (get_or-drop (a * block_words o) words i (pos 0) ∙ filled (a * block_words o + i)))

pub cut-filled : (o : Parts) (inputs : List (List ℤ)) (b : ℕ) (words : List ℤ)
    → length words ≡ blocks_of o b * block_words o → IsFilled (block_words o) o.symbols inputs b 0 words
    → cut (block_words o) (blocks_of o b) words ≡ start_bank o inputs b
unfolding start_bank
cut-filled o inputs b words size filled =
    fill_by_all (start_block o inputs b) (cut (block_words o) (blocks_of o b) words) (blocks_of o b) []
    (length-cut (block_words o) (blocks_of o b) words)
    (λ a exists.
    block-cut (block_words o) (blocks_of o b) words a exists ∙ block-filled o inputs b words size filled a exists)

-- a block has a word at least
pub width-least : (o : Parts) → 0 < block_words o
width-least o = pow_pos o.profile.block_log

pub in_blocks-filled : (o : Parts) (inputs : List (List ℤ)) (b : ℕ) (words : List ℤ)
    → length words ≡ blocks_of o b * block_words o → IsFilled (block_words o) o.symbols inputs b 0 words
    → in_blocks (block_words o) words ≡ start_bank o inputs b
in_blocks-filled o inputs b words size filled =
    ap (λ n. cut (block_words o) n words)
    (ap (λ n. n / block_words o) size ∙ mul-div_cancel (blocks_of o b) (width-least o))
    ∙ cut-filled o inputs b words size filled

pub words-filled : (o : Parts) (inputs : List (List ℤ)) (b : ℕ) (words : List ℤ)
    → length words ≡ blocks_of o b * block_words o → IsFilled (block_words o) o.symbols inputs b 0 words
    → words ≡ words_of_blocks (start_bank o inputs b)
words-filled o inputs b words size filled =
    sym (words_of_cut (block_words o) (blocks_of o b) words size)
    ∙ ap words_of_blocks (cut-filled o inputs b words size filled)

-- The first words of a bank at the start: followed by zeros they are the bank.
module _ (o p : Parts) (same : p ≡ o) (inputs : List (List ℤ)) (b : ℕ) (front : List ℤ)
    (within : length front ≤ blocks_of p b * block_words p)
    (filled : (i : ℕ) → get_or front i (pos 0) ≡ start_word (block_words p) p.symbols inputs b i) where
  abbrev all_of : Parts → ℕ
  all_of q = blocks_of q b * block_words q

  size : length (filled_up (all_of p) front) ≡ all_of o
  size = length-filled_up (all_of p) front within ∙ ap all_of same

  is_filled : IsFilled (block_words o) o.symbols inputs b 0 (filled_up (all_of p) front)
  is_filled i =
      get_or-filled_up (all_of p) front i ∙ (filled i ∙ ap (λ q. start_word (block_words q) q.symbols inputs b i) same)

  -- in a bank of this many blocks of this width
  pub front-bank : (w n : ℕ)
      → w ≡ block_words p → n ≡ blocks_of p b → cut w n (filled_up (n * w) front) ≡ start_bank o inputs b
  front-bank w n width count =
      rw (width, count)
      (ap (λ q. cut (block_words q) (blocks_of q b) (filled_up (all_of p) front)) same
      ∙ cut-filled o inputs b (filled_up (all_of p) front) size is_filled)

  -- blocks whose front is filled in are the bank at the start
  pub front-starting : (made : Blocks) (w n : ℕ) → w ≡ block_words p → n ≡ blocks_of p b
      → made.contents ≡ cut w n (filled_up (n * w) front) → made.width ≡ w → made ≡ starting_bank o inputs b
  front-starting made w n width count is wide =
      ap (λ c. let bank : Blocks = record { contents = c; width = made.width } in bank)
      (is ∙ front-bank w n width count)
      ∙ ap (λ k. let bank : Blocks = record { contents = start_bank o inputs b; width = k } in bank)
      (wide ∙ (width ∙ ap block_words same))

  -- in an image of all its words
  module _ (n : ℕ) (all : n ≡ blocks_of p b * block_words p) (image : List ℤ) (is : image ≡ filled_up n front) where
    whole : image ≡ filled_up (all_of p) front
    whole = is ∙ ap (λ k. filled_up k front) all

    -- the words of a bank at the start
    pub image-words : image ≡ words_of_blocks (start_bank o inputs b)
    image-words = whole ∙ words-filled o inputs b (filled_up (all_of p) front) size is_filled

    -- the blocks of a bank at the start
    pub image-blocks : in_blocks (block_words o) image ≡ start_bank o inputs b
    image-blocks =
        ap (in_blocks (block_words o)) whole ∙ in_blocks-filled o inputs b (filled_up (all_of p) front) size is_filled

    -- how many words a bank has at the start
    pub image-size : length image ≡ blocks_of o b * block_words o
    image-size = ap length whole ∙ size
