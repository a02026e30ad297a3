-- A state represents a store in which one element is changed, if its block is written in its slot and in its bank.
use Rattle.std.proofs.Common.{◌≡◌, ◌≢◌, ℕ, ◌+◌, ◌*◌, ◌/◌, ◌%◌, ◌<◌, ◌≤◌, false, ℤ, pos, List, [], length, get_or, set, Some, refl, sym, ap, ◌∙◌, subst, ⊎_elim, arith, mul-le-mul_right, div-add-mod', mod-lt}
use Rattle.std.proofs.lemmas.Bool.{cases_eq, true≢false}
use Rattle.std.proofs.lemmas.List.{get_or-set_same, get_or-set_other}
use Rattle.gr_word.specs.declared.variables.Label.{Label}
use Rattle.gr_word.specs.declared.variables.Shape.TheVariants.{Array}
use Rattle.lt_isa.specs.Prelude.{Parts, IsInRange, Unbound, Bound, State, register, bank_blocks, block_at, word_in, set_slot, set_block, bank_word_numbered, IsShaped}
use Rattle.src_tree.specs.Prelude.{context_of, Store, variable_number, words_of_number, with_word}
use Rattle.src_tree.proofs.VariableNumbers.{number-below}
use Rattle.scratch_alloc.proofs.Serving.{serves-within}
use Rattle.block_cache_gen.specs.Prelude.{Home, Setting, HasHomes, HomesApart, no_home, home_of, words_a_block, start_of_home, StandsFor, FitsHomes, IsBlockOf, first_kept}
use Rattle.block_cache_gen.proofs.HomeFacts.{block_words-is, block_words-least, block-exists, word-split, word-block, word-place}
use Rattle.block_cache_gen.proofs.HeldScalars.{array-free, held-words}
use Rattle.block_cache_gen.proofs.Stands.{stands-like, stands-bound}
use Rattle.block_cache_gen.proofs.Stores.{words-other, words-same}

module _ (o : Parts) (fits : IsInRange o) (f : Setting) (homes : HasHomes o f) (s : State) (shaped : IsShaped o s)
    (store : Store) (store_fits : FitsHomes f store) (stands : StandsFor f s store) (x : List ℕ) (label : Label)
    (known : context_of f.decls x ≡ Some (label, Array)) (turn : (home_of f x).resident ≡ false) (n : ℕ)
    (within : n < (home_of f x).length) (word : ℤ) where
  -- the block of the word, and its words with the new one
  abbrev pub block_here : ℕ
  block_here = (home_of f x).block + n / words_a_block f

  abbrev pub words_here : List ℤ
  words_here = set (block_at s (home_of f x).bank block_here) (n % words_a_block f) word

  -- the state with both
  abbrev pub written : State
  written =
      set_block (set_slot s (home_of f x).slot (Bound (home_of f x).bank block_here words_here))
      (home_of f x).bank block_here words_here

  bank-here : (home_of f x).bank < length s.banks
  bank-here = omega (arith, (homes.arrays x label known turn).bank, shaped.bank_count)

  part-here : n % words_a_block f < words_a_block f
  part-here = mod-lt n (block_words-least fits homes)

  block-here : block_here < length (bank_blocks s (home_of f x).bank)
  block-here =
      let h = home_of f x in
      let home = homes.arrays x label known turn in
      omega (arith, block-exists o fits f homes label h home n within, shaped.block_counts h.bank home.bank)

  size-here : length (block_at s (home_of f x).bank block_here) ≡ words_a_block f
  size-here =
      let h = home_of f x in
      let home = homes.arrays x label known turn in
      (shaped.blocks h.bank block_here home.bank (block-exists o fits f homes label h home n within)).size
      ∙ block_words-is homes

  -- the blocks of the banks after the write
  written-block : block_at written (home_of f x).bank block_here ≡ words_here
  written-block =
      let h = home_of f x in
      ap (λ l. get_or l block_here [])
      (get_or-set_same s.banks h.bank (set (bank_blocks s h.bank) block_here words_here) [] bank-here)
      ∙ get_or-set_same (bank_blocks s h.bank) block_here words_here [] block-here

  other-block : (c e : ℕ) → (c ≡ (home_of f x).bank → e ≢ block_here) → block_at written c e ≡ block_at s c e
  other-block c e unlike =
      let h = home_of f x in
      let blocks = set (bank_blocks s h.bank) block_here words_here in
      ⊎_elim
      (λ same.
      ap (λ m. block_at written m e) same
      ∙ ap (λ l. get_or l e []) (get_or-set_same s.banks h.bank blocks [] bank-here)
      ∙ get_or-set_other (bank_blocks s h.bank) block_here e words_here [] (unlike same)
      ∙ ap (λ m. block_at s m e) (sym same))
      (λ other. ap (λ l. get_or l e []) (get_or-set_other s.banks h.bank c blocks [] other))
      (cases_eq c h.bank)

  -- the words of the banks after the write
  written-word : bank_word_numbered (words_a_block f) written (home_of f x).bank
      (start_of_home (words_a_block f) (home_of f x) + n) ≡ word
  written-word =
      let h = home_of f x in
      let home = homes.arrays x label known turn in
      let w = words_a_block f in
      let part = part-here in
      ap (λ b. word_in (block_at written h.bank b) ((start_of_home w h + n) % w))
      (word-block o fits f homes label h home n)
      ∙ ap (λ m. word_in (block_at written h.bank block_here) m) (word-place o fits f homes label h home n)
      ∙ ap (λ l. word_in l (n % w)) written-block
      ∙ get_or-set_same (block_at s h.bank block_here) (n % w) word (pos 0) (omega (arith, size-here))

  other-word : (c m : ℕ) → (c ≡ (home_of f x).bank → m ≢ start_of_home (words_a_block f) (home_of f x) + n)
      → bank_word_numbered (words_a_block f) written c m ≡ bank_word_numbered (words_a_block f) s c m
  other-word c m unlike =
      let h = home_of f x in
      let home = homes.arrays x label known turn in
      let w = words_a_block f in
      ⊎_elim
      (λ same.
      ⊎_elim
      (λ same_block.
      let unlike_place : m % w ≢ n % w =
      λ same_place.
      unlike same
      (sym (div-add-mod' m w) ∙ ap (λ q. q * w + m % w) same_block ∙ ap (λ r. block_here * w + r) same_place
      ∙ sym (word-split o fits f homes label h home n)) in
      ap (λ b. word_in (block_at written b (m / w)) (m % w)) same
      ∙ ap (λ b. word_in (block_at written h.bank b) (m % w)) same_block
      ∙ ap (λ l. word_in l (m % w)) written-block
      ∙ get_or-set_other (block_at s h.bank block_here) (n % w) (m % w) word (pos 0) unlike_place
      ∙ ap (λ b. word_in (block_at s h.bank b) (m % w)) (sym same_block)
      ∙ ap (λ b. word_in (block_at s b (m / w)) (m % w)) (sym same))
      (λ other. ap (λ l. word_in l (m % w)) (other-block c (m / w) (λ same_bank. other)))
      (cases_eq (m / w) block_here))
      (λ other. ap (λ l. word_in l (m % w)) (other-block c (m / w) (λ same_bank. absurd (other same_bank))))
      (cases_eq c h.bank)

  -- another array of the bank is before or after it
  arrays-apart : (y : List ℕ) (label' : Label) → context_of f.decls y ≡ Some (label', Array)
      → variable_number f.decls y ≢ variable_number f.decls x → HomesApart (words_a_block f) (home_of f y) (home_of f x)
  arrays-apart y label' known' other =
      let within_x = number-below f.decls x (label, Array) known in
      let within_y = number-below f.decls y (label', Array) known' in
      subst (λ w. HomesApart w (home_of f y) (home_of f x)) (block_words-is homes)
      (homes.apart (variable_number f.decls y) (variable_number f.decls x) (omega (arith, homes.count))
      (omega (arith, homes.count)) other)

  -- so it has no word of the block that is written
  unlike-block : (y : List ℕ) (label' : Label) → context_of f.decls y ≡ Some (label', Array)
      → (home_of f y).resident ≡ false → variable_number f.decls y ≢ variable_number f.decls x → (block : ℕ)
      → IsBlockOf (words_a_block f) (home_of f y) block → (home_of f y).bank ≡ (home_of f x).bank → block ≢ block_here
  unlike-block y label' known' turn' other block is_block same_bank same_block =
      let g = home_of f y in
      let h = home_of f x in
      let w = words_a_block f in
      let home = homes.arrays x label known turn in
      let home' = homes.arrays y label' known' turn' in
      let split = word-split o fits f homes label h home n in
      let same : block * w ≡ block_here * w = ap (λ b. b * w) same_block in
      let from_g : g.block * w ≤ block * w = mul-le-mul_right {m = g.block} {n = block} w is_block.behind in
      let from_h : h.block * w ≤ block_here * w = mul-le-mul_right {m = h.block} {n = block_here} w (omega arith) in
      ⊎_elim
      (λ before. omega (arith, before, same, from_h, is_block.begins, home.word))
      (λ after. omega (arith, after, same, from_g, split, within, home'.word))
      (arrays-apart y label' known' other same_bank)

  unlike-word : (y : List ℕ) (label' : Label) → context_of f.decls y ≡ Some (label', Array)
      → variable_number f.decls y ≢ variable_number f.decls x → (i : ℕ) → i < (home_of f y).length
      → (home_of f y).bank ≡ (home_of f x).bank
      → start_of_home (words_a_block f) (home_of f y) + i ≢ start_of_home (words_a_block f) (home_of f x) + n
  unlike-word y label' known' other i inside same_bank same =
      ⊎_elim
      (λ before. omega (arith, before, same, inside))
      (λ after. omega (arith, after, same, within))
      (arrays-apart y label' known' other same_bank)

  stands-written : StandsFor f written (with_word store (variable_number f.decls x) n word)
  stands-written =
      let h = home_of f x in
      let k = variable_number f.decls x in
      let w = words_a_block f in
      let served = serves-within (homes.arrays x label known turn).slot in
      let found = Bound h.bank block_here words_here in
      let within_store : k < length store =
      omega (arith, number-below f.decls x (label, Array) known, store_fits.count) in
      let size : length (words_of_number store k) ≡ h.length = store_fits.lengths x label Array known in
      stands-bound o f homes s store stands written x label known turn block_here words_here
      (get_or-set_same s.slots h.slot found Unbound (omega (arith, shaped.slot_count)))
      (λ j other. get_or-set_other s.slots h.slot j found Unbound other)
      (sym written-block) (λ r over. refl) (with_word store k n word)
      (λ y label' shape i known' resident.
      ap (λ l. get_or l i (pos 0)) (sym
      (words-other store k n (variable_number f.decls y) word
      (λ same. true≢false
      (sym resident ∙ ap (λ v. (get_or f.homes v no_home).resident) same ∙ turn)))))
      (held-words f x (array-free f homes.held x label known) store n word)
      (λ y label' i known' turn' inside.
      let g = home_of f y in
      let m = variable_number f.decls y in
      ⊎_elim
      (λ same.
      let home_same : g ≡ h = ap (λ v. get_or f.homes v no_home) same in
      let store_same : words_of_number (with_word store k n word) m ≡ set (words_of_number store k) n word =
      ap (λ v. words_of_number (with_word store k n word) v) same ∙ words-same store k n word within_store in
      ⊎_elim
      (λ here.
      ap (λ (z : Home). bank_word_numbered w written z.bank (start_of_home w z + i)) home_same
      ∙ ap (λ v. bank_word_numbered w written h.bank (start_of_home w h + v)) here
      ∙ written-word
      ∙ sym (get_or-set_same (words_of_number store k) n word (pos 0) (omega (arith, size, within)))
      ∙ ap (λ v. get_or (set (words_of_number store k) n word) v (pos 0)) (sym here)
      ∙ ap (λ l. get_or l i (pos 0)) (sym store_same))
      (λ there.
      let start_same : start_of_home w g ≡ start_of_home w h = ap (λ (z : Home). start_of_home w z) home_same in
      other-word g.bank (start_of_home w g + i)
      (λ same_bank same_word. there (omega (arith, start_same, same_word)))
      ∙ stands.arrays y label' i known' turn' inside
      ∙ ap (λ v. get_or (words_of_number store v) i (pos 0)) same
      ∙ sym (get_or-set_other (words_of_number store k) n i word (pos 0) there)
      ∙ ap (λ l. get_or l i (pos 0)) (sym store_same))
      (cases_eq i n))
      (λ other.
      other-word g.bank (start_of_home w g + i)
      (λ same_bank. unlike-word y label' known' other i inside same_bank)
      ∙ stands.arrays y label' i known' turn' inside
      ∙ ap (λ l. get_or l i (pos 0)) (sym (words-other store k n m word other)))
      (cases_eq m k))
      (λ y label' block known' turn' is_block other.
      let unlike : variable_number f.decls y ≢ k = λ same. other (ap (λ v. (get_or f.homes v no_home).slot) same) in
      sym
      (other-block (home_of f y).bank block
      (λ same_bank. unlike-block y label' known' turn' unlike block is_block same_bank)))

  -- with an element set the machine represents the store with it
  pub stands-element_set : (t : State) → t.slots ≡ written.slots → t.banks ≡ written.banks
      → ((r : ℕ) → first_kept f ≤ r → register t r ≡ register s r)
      → StandsFor f t (with_word store (variable_number f.decls x) n word)
  stands-element_set t slots banks kept =
      stands-like f written t (with_word store (variable_number f.decls x) n word) slots banks kept stands-written
