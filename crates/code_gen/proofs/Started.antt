-- After the first instructions of its code, the run of a program represents the store that the banks hold at the start.
use Rattle.std.proofs.Common.{◌≡◌, ◌≢◌, ℕ, ◌+◌, ◌-◌, ◌*◌, ◌/◌, ◌%◌, ◌<◌, true, false, pos, ℤ, List, [], Some, None, refl, sym, ap, ◌∙◌, ⊎_elim, arith, add-mul, div-add-mod', mod-lt, pow_pos}
use Rattle.std.specs.Prelude.{slice_index_or}
use Rattle.std.proofs.lemmas.Bool.{cases_eq}
use Rattle.std.proofs.lemmas.Option.{slice_get_within}
use Rattle.std.proofs.lemmas.Nat.{div-mul-add, mod-mul-add}
use Rattle.gr_base.specs.Prelude.{Within}
use Rattle.gr_word.specs.declared.variables.Label.{Label}
use Rattle.gr_word.specs.declared.variables.Shape.{Shape}
use Rattle.gr_word.specs.declared.variables.Shape.TheVariants.{Array}
use Rattle.lt_isa.specs.Prelude.{Parts, block_words, State, Unbound, Bound, slot, block_at, word_in, slot_words, bank_word_numbered}
use Rattle.src_tree.specs.Prelude.{context_of, Store, variable_number, words_of_number}
use Rattle.scratch_alloc.specs.declared.plans.Pin.{Pin}
use Rattle.held_registers.specs.Prelude.{held_at}
use Rattle.block_cache_gen.specs.Prelude.{Held, Home, Setting, HasHomes, Serves, PlainSlot, EncryptedSlot, ObliviousSlot, home_of, slot_of_word, pin_at, words_a_block, start_of_home, first_blocks, StandsFor}
use Rattle.block_cache_gen.proofs.HeldBeginning.{unheld}
use Rattle.block_cache_gen.proofs.HeldScalars.{held-listed}
use Rattle.block_cache_gen.proofs.HomeFacts.{block_words-is}
use Rattle.block_cache_gen.proofs.NamesOfHomes.{array-used, array-served}
use Rattle.block_cache_gen.proofs.ServedBlocks.{first-pinned, first-served}
use Rattle.scratch_alloc.specs.Prelude.{pin_to}
use Rattle.block_cache_gen.proofs.WordSlots.{word-pinned}
use Rattle.block_cache_gen.proofs.Stands.{bound-block, bound-words}
use Rattle.code_gen.proofs.Loads.{LoadedTo, bound_by, named, named-is}

-- each variable's words are in its home's bank
pub record BanksHold (f : Setting) (s : State) (store : Store) : Type 0 where
  pub words : (x : List ℕ) (label : Label) (shape : Shape) (i : ℕ) → context_of f.decls x ≡ Some (label, shape)
      → i < (home_of f x).length
      → bank_word_numbered (words_a_block f) s (home_of f x).bank (start_of_home (words_a_block f) (home_of f x) + i)
      ≡ slice_index_or (words_of_number store (variable_number f.decls x)) i (pos 0)

-- a word of a home is in one of the blocks from its first one on
pub word-in_block : (s : State) (h : Home) (w i : ℕ) → 0 < w
    → bank_word_numbered w s h.bank (start_of_home w h + i)
    ≡ word_in (block_at s h.bank (h.block + (h.word + i) / w)) ((h.word + i) % w)
word-in_block s h w i some =
    let n = h.word + i in
    let b = h.block + n / w in
    let same : start_of_home w h + i ≡ b * w + n % w =
    omega (arith, div-add-mod' n w, add-mul h.block (n / w) w) in
    ap (bank_word_numbered w s h.bank) same
    ∙ ap (λ m. word_in (block_at s h.bank m) ((b * w + n % w) % w)) (div-mul-add b w (n % w) (mod-lt n some))
    ∙ ap (word_in (block_at s h.bank b)) (mod-mul-add b w (n % w) (mod-lt n some))

holds-nothing : (r : ℕ) (h : Held) → held_at [] r ≡ Some h → ⊥
holds-nothing r h at =
    let within = slice_get_within [] (r - 19) h (held-listed [] r h at) in omega (arith, within)

unbound : (b a : ℕ) (words : List ℤ) → Unbound ≡ Bound b a words → ⊥
unbound b a words e = cc

module _ (o : Parts) (f : Setting) (homes : HasHomes o f) where
  -- the slot of a word of a resident variable is pinned to the word's block
  pub resident-pinned : (x : List ℕ) (label : Label) (shape : Shape) (i : ℕ)
      → context_of f.decls x ≡ Some (label, shape) → (home_of f x).resident ≡ true → i < (home_of f x).length
      → pin_at f (slot_of_word f (home_of f x) ((home_of f x).word + i))
      ≡ Some (pin_to (home_of f x).bank ((home_of f x).block + ((home_of f x).word + i) / words_a_block f))
  resident-pinned x label shape i known resident below =
      word-pinned f (block_words o) label (home_of f x) (homes.residents x label shape known resident)
      (block_words-is homes) (pow_pos o.profile.block_log) ((home_of f x).word + i) (omega (arith, below))

  module _ (s t : State) (after : LoadedTo o s (first_blocks f) 8 t) where
    -- a slot that begins with a block holds it
    begins : (k : ℕ) (p : Pin) → k < 8 → slice_index_or (first_blocks f) k None ≡ Some p
        → slot t k ≡ Bound p.bank (named o p.bank p.block) (block_at s p.bank (named o p.bank p.block))
    begins k p few is = after.loaded k few ∙ ap (λ b. bound_by o s b (slot s k)) is

    -- a pinned slot holds its block
    pinned-held : (k : ℕ) (p : Pin) → pin_at f k ≡ Some p
        → slot t k ≡ Bound p.bank p.block (block_at s p.bank p.block)
    pinned-held k p is =
        let pin = homes.pins k p is in
        begins k p pin.few (first-pinned f k p pin.few pin.apart is)
        ∙ ap (λ a. Bound p.bank a (block_at s p.bank a)) (named-is o p.bank p.block pin.block)

    -- and the slot of another array has a block of its bank
    record HasFirst (bank k : ℕ) : Type 0 where
      block : ℕ
      holds : slot t k ≡ Bound bank block (block_at s bank block)

    array-first : (x : List ℕ) (label : Label) → context_of f.decls x ≡ Some (label, Array)
        → (home_of f x).resident ≡ false → Within 2 5 (home_of f x).slot
        → HasFirst (home_of f x).bank (home_of f x).slot
    array-first x label known turn low =
        let h = home_of f x in
        let first =
        first-served f h.slot h.bank (array-served o f homes x label known turn low)
        (homes.arrays x label known turn).unpinned (array-used o f homes x label known) in
        record {
          block = named o h.bank first.0;
          holds = begins h.slot (record { bank = h.bank; block = first.0 }) (omega (arith, low)) first.1;
        }

    -- a slot that serves arrays is slot 6 or one of 2 to 5
    low : (bank k : ℕ) → Serves bank k → (k ≡ 6 → ⊥) → Within 2 5 k
    low bank k (PlainSlot k' within) other = (omega (arith, within), omega (arith, within))
    low bank k (EncryptedSlot k' within) other = (omega (arith, within), omega (arith, within))
    low bank k (ObliviousSlot b least) other = absurd (other refl)

    -- after the loads the machine represents the store that the banks hold, with no scalar in a register
    pub stands-started : (store : Store) → BanksHold f s store → slot s 6 ≡ Unbound → StandsFor (unheld f) t store
    stands-started store hold free = record {
      pinned = λ k p is. record { words = block_at s p.bank p.block; holds = pinned-held k p is };
      residents = λ x label shape i known resident free below.
          let h = home_of f x in
          let w = words_a_block f in
          let n = h.word + i in
          ap (λ bound. word_in (slot_words bound) (n % w))
          (pinned-held (slot_of_word f h n) (pin_to h.bank (h.block + n / w))
          (resident-pinned x label shape i known resident below))
          ∙ sym (word-in_block s h w i (pow_pos f.profile.block_log))
          ∙ hold.words x label shape i known below;
      arrays = λ x label i known turn below.
          ap (λ banks. bank_word_numbered (words_a_block f) (record t { banks = banks }) (home_of f x).bank
          (start_of_home (words_a_block f) (home_of f x) + i)) after.banks
          ∙ hold.words x label Array i known below;
      bound = λ x label known turn within.
          let found = array-first x label known turn within in
          record { block = found.block; words = block_at s (home_of f x).bank found.block; holds = found.holds };
      current = λ x label block words known turn holds is.
          let h = home_of f x in
          ⊎_elim
          (λ (six : h.slot ≡ 6).
          absurd (unbound h.bank block words
          (sym free ∙ sym (after.loaded 6 (omega arith)) ∙ ap (slot t) (sym six) ∙ holds)))
          (λ (other : h.slot ≢ 6).
          let found = array-first x label known turn (low h.bank h.slot (homes.arrays x label known turn).slot other) in
          let a = found.block in
          let both : Bound h.bank a (block_at s h.bank a) ≡ Bound h.bank block words = sym found.holds ∙ holds in
          sym (bound-words h.bank h.bank a block (block_at s h.bank a) words both)
          ∙ ap (λ banks. block_at (record s { banks = banks }) h.bank a) (sym after.banks)
          ∙ ap (block_at t h.bank) (bound-block h.bank h.bank a block (block_at s h.bank a) words both))
          (cases_eq h.slot 6);
      held = λ r h at. absurd (holds-nothing r h at);
    }
