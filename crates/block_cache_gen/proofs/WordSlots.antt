-- The slot of each word of a resident variable: it is pinned to the block in which the word is.
use Rattle.std.proofs.Common.{◌≡◌, ℕ, zero, suc, ◌+◌, ◌*◌, ◌/◌, ◌%◌, ◌<◌, ◌≤◌, List, [], ◌∷◌, length, get_or, Option, Some, None, ◌⊎◌, inl, inr, refl, sym, ap, ◌∙◌, arith, mod-eq_of_lt, ℤ}
use Rattle.std.specs.List.{slice_get}
use Rattle.std.proofs.Math.Nat.{div-eq_of_lt, div-lt_iff_lt-mul}
use Rattle.std.proofs.lemmas.List.{get_or_default, length-take}
use Rattle.gr_word.specs.declared.variables.Label.{Label}
use Rattle.lt_isa.specs.Prelude.{word_in}
use Rattle.scratch_alloc.specs.Prelude.{pin_to}
use Rattle.block_cache_gen.specs.Prelude.{Home, Setting, IsInOneBlock, IsSpreadHome, IsResidentHome, pin_at, slots_of_home, slot_of_word, words_a_block, further_slots}

-- all words of a variable in one block have one slot
pub single-slot : (slot : ℕ) (more : List ℕ) (j : ℕ) → more ≡ [] → get_or (slot ∷ more) j slot ≡ slot
single-slot slot [] zero is = refl
single-slot slot [] (suc j) is = refl
single-slot slot (next ∷ more) j is = absurd cc

-- a word of a variable in one block, by its slot and its number there
pub single-word : (f : Setting) (h : Home) (words : ℕ → List ℤ) (n : ℕ) → (further_slots h) ≡ [] → n < words_a_block f
    → word_in (words (slot_of_word f h n)) (n % words_a_block f) ≡ word_in (words h.slot) n
single-word f h words n single within =
    ap (λ k. word_in (words k) (n % words_a_block f)) (single-slot h.slot (further_slots h) (n / words_a_block f) single)
    ∙ ap (word_in (words h.slot)) (mod-eq_of_lt within)

-- a slot that is in a list
pub got : (slots : List ℕ) (i k d : ℕ) → slice_get slots i ≡ Some k → (i < length slots) × (get_or slots i d ≡ k)
got [] i k d is = absurd (let e : ◌≡◌ {A = Option ℕ} None (Some k) = is in cc)
got (slot ∷ slots) zero k d is = (omega arith, (let e : ◌≡◌ {A = Option ℕ} (Some slot) (Some k) = is in cc))
got (slot ∷ slots) (suc i) k d is =
    let rest = got slots i k d is in (omega (arith, rest.0), rest.1)

-- there are few slots
pub few-further : (h : Home) → length (further_slots h) ≤ 4
few-further h = omega (arith, length-take 4 h.more)

module _ (f : Setting) (w : ℕ) (label : Label) (h : Home) (home : IsResidentHome f w label h)
    (width : w ≡ words_a_block f) (some : 1 ≤ w) where
  first-pinned : pin_at f h.slot ≡ Some (pin_to h.bank (h.block + 0))
  first-pinned =
      home.pinned ∙ ap (λ b. Some (pin_to h.bank b)) (let e : h.block ≡ h.block + 0 = omega arith in e)

  block-pinned : (j : ℕ) → j ≤ length (further_slots h) → IsInOneBlock w h ⊎ IsSpreadHome f w label h
      → pin_at f (get_or (slots_of_home h) j h.slot) ≡ Some (pin_to h.bank (h.block + j))
  block-pinned zero low kind = first-pinned
  block-pinned (suc j) low (inl one) =
      let none : length (further_slots h) ≡ 0 = ap length one.single in absurd (omega (arith, low, none))
  block-pinned (suc j) low (inr spread) =
      ap (pin_at f) (get_or_default (further_slots h) j h.slot 0 (omega (arith, low)))
      ∙ spread.pinned j (omega (arith, low))
      ∙ ap (λ b. Some (pin_to h.bank b)) (let e : h.block + (1 + j) ≡ h.block + suc j = omega arith in e)

  -- the block in which a word is, among those of the variable
  block-few : (n : ℕ) → n < h.word + h.length → IsInOneBlock w h ⊎ IsSpreadHome f w label h
      → n / words_a_block f ≤ length (further_slots h)
  block-few n within (inl one) =
      let inside = one.inside in
      let none : n / words_a_block f ≡ 0 = div-eq_of_lt (omega (arith, inside, within, width)) in
      omega (arith, none)
  block-few n within (inr spread) =
      let inside = spread.inside in
      let word = spread.word in
      let wide : (1 + length (further_slots h)) * w ≡ (1 + length (further_slots h)) * words_a_block f =
      ap (λ z. (1 + length (further_slots h)) * z) width in
      let less : n / words_a_block f < 1 + length (further_slots h) =
      (div-lt_iff_lt-mul {k = words_a_block f} {x = n} {y = 1 + length (further_slots h)} (omega (arith, some, width))).1
      (omega (arith, inside, word, within, wide)) in
      omega (arith, less)

  pub word-pinned : (n : ℕ) → n < h.word + h.length
      → pin_at f (slot_of_word f h n) ≡ Some (pin_to h.bank (h.block + n / words_a_block f))
  word-pinned n within = block-pinned (n / words_a_block f) (block-few n within home.blocks) home.blocks

  -- so is each slot of the variable
  pub slot-pinned : (i k : ℕ) → slice_get (slots_of_home h) i ≡ Some k
      → pin_at f k ≡ Some (pin_to h.bank (h.block + i))
  slot-pinned i k is =
      let at = got (slots_of_home h) i k h.slot is in
      ap (pin_at f) (sym at.1) ∙ block-pinned i (let low = at.0 in omega (arith, low)) home.blocks

  -- a variable has few words
  pub words-few : h.word + h.length ≤ w + 1048576
  words-few = by home.blocks
    where
      by : IsInOneBlock w h ⊎ IsSpreadHome f w label h → h.word + h.length ≤ w + 1048576
      by (inl one) = let inside = one.inside in omega (arith, inside)
      by (inr spread) =
          let word = spread.word in
          let most = home.length.1 in
          omega (arith, word, most)

  -- a variable of several slots has all its words in their blocks, from the first one's first word on
  pub several : (next : ℕ) (rest : List ℕ) → (further_slots h) ≡ next ∷ rest → IsSpreadHome f w label h
  several next rest is = by home.blocks
    where
      by : IsInOneBlock w h ⊎ IsSpreadHome f w label h → IsSpreadHome f w label h
      by (inl one) = absurd (let e : [] ≡ next ∷ rest = sym one.single ∙ is in cc)
      by (inr spread) = spread

  -- a variable of one slot is within its block
  pub one-block : (further_slots h) ≡ [] → h.word + h.length ≤ w
  one-block single = by home.blocks
    where
      by : IsInOneBlock w h ⊎ IsSpreadHome f w label h → h.word + h.length ≤ w
      by (inl one) = one.inside
      by (inr spread) =
          let none : length (further_slots h) ≡ 0 = ap length single in
          let wide : (1 + length (further_slots h)) * w ≡ (1 + 0) * w = ap (λ k. (1 + k) * w) none in
          let inside = spread.inside in
          let word = spread.word in
          omega (arith, inside, word, wide)
