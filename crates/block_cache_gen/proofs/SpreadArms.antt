-- Words of resident variables in an arm, whether in one slot or in several: what the check sees of a read.
use Rattle.std.proofs.Common.{◌≡◌, ℕ, ◌+◌, ◌/◌, ◌<◌, ◌≤◌, true, ℤ, List, [], ◌∷◌, length, get_or, Option, Some, None, ◌⊎◌, inl, inr, refl, sym, ap, ◌∙◌, subst, arith, pow_pos, mod-lt}
use Rattle.std.specs.List.{slice_get}
use Rattle.gr_word.specs.declared.variables.Label.{Label}
use Rattle.gr_word.specs.declared.variables.Label.TheVariants.{Secret}
use Rattle.gr_word.specs.declared.variables.Shape.{Shape}
use Rattle.gr_word.specs.Prelude.{unsigned_of}
use Rattle.lt_isa.specs.declared.profiles.Profile.{Profile}
use Rattle.lt_isa.specs.declared.instructions.Instr.TheVariants.{Ldw}
use Rattle.lt_isa.specs.Prelude.{Parts, block_words}
use Rattle.symbolic_values.specs.Prelude.{Value}
use Rattle.src_tree.specs.Prelude.{context_of}
use Rattle.bank_alloc.specs.Prelude.{scalar_bank}
use Rattle.scratch_alloc.specs.Prelude.{pin_to}
use Rattle.trace_patterns.specs.Prelude.{SymSlot, AnySlot, SymState, tree_held, slot_held, slot_bank}
use Rattle.stretches.proofs.ArmCode.{Walked}
use Rattle.lt_checker.proofs.Singles.{IsKnown}
use Rattle.word_selection.specs.Prelude.{selected_read}
use Rattle.word_selection.proofs.ReadLaws.{walks-read}
use Rattle.block_cache_gen.specs.Prelude.{further_slots, Pin, Setting, HasHomes, IsInOneBlock, IsSpreadHome, IsResidentHome, home_of, pin_at, slots_of_home, slot_of_word, words_a_block, read_by, fixed_word, CarriesInArm, word_gap, word_read, pinned_slot, no_loads, read_shows_by, first_kept}
use Rattle.block_cache_gen.proofs.HomeFacts.{block_words-is}
use Rattle.block_cache_gen.proofs.WordSlots.{single-slot, word-pinned, slot-pinned}
use Rattle.block_cache_gen.proofs.ArmInstructions.{sets-ldw}
use Rattle.block_cache_gen.proofs.ArmStates.{LeavesTree, bound-of_bank, carries-same, encrypted_read, hidden_read, resident-read}
use Rattle.word_selection.specs.Selection as selection

module _ (o : Parts) (f : Setting) (homes : HasHomes o f) (x : List ℕ) (label : Label) (shape : Shape)
    (known : context_of f.decls x ≡ Some (label, shape)) (resident : (home_of f x).resident ≡ true) where
  home : IsResidentHome f (block_words o) label (home_of f x)
  home = homes.residents x label shape known resident

  some_words : 1 ≤ block_words o
  some_words = pow_pos o.profile.block_log

  -- the slots of a secret variable have blocks of encrypted memory
  pub secret-bank : label ≡ Secret → (home_of f x).bank ≡ 1
  secret-bank e = home.bank ∙ ap scalar_bank e

  pinned-bank : (s : SymState) → CarriesInArm f s → (k : ℕ) (p : Pin) → pin_at f k ≡ Some p
      → slot_bank (slot_held s k) ≡ Some p.bank
  pinned-bank s carries k p is = let pin = homes.pins k p is in carries.pinned k p is pin.few pin.apart

  -- each slot of a variable has its bank
  pub each-bank : (s : SymState) → CarriesInArm f s → (i k : ℕ) → slice_get (slots_of_home (home_of f x)) i ≡ Some k
      → slot_bank (slot_held s k) ≡ Some (home_of f x).bank
  each-bank s carries i k is =
      let h = home_of f x in
      pinned-bank s carries k (pin_to h.bank (h.block + i))
      (slot-pinned f (block_words o) label h home (block_words-is homes) some_words i k is)

  -- so has the one that an index names which is a number
  pub word-bank : (s : SymState) → CarriesInArm f s → (n : ℕ) → n < (home_of f x).word + (home_of f x).length
      → slot_bank (slot_held s (slot_of_word f (home_of f x) n)) ≡ Some (home_of f x).bank
  word-bank s carries n within =
      let h = home_of f x in
      pinned-bank s carries (slot_of_word f h n) (pin_to h.bank (h.block + n / words_a_block f))
      (word-pinned f (block_words o) label h home (block_words-is homes) some_words n within)

  pub fixed-within : (z : ℤ) → (home_of f x).word + fixed_word (home_of f x) z < (home_of f x).word + (home_of f x).length
  fixed-within z =
      let h = home_of f x in
      let some = home.length.0 in
      let part : fixed_word h z < h.length = mod-lt (unsigned_of z) (omega (arith, some)) in
      omega (arith, part)

  -- any of its words is read with the tree that a word of its first slot has
  same-read : (s : SymState) → CarriesInArm f s → (n : ℕ) → n < (home_of f x).word + (home_of f x).length
      → (place : Option Value)
      → word_read f (slot_held s (slot_of_word f (home_of f x) n)) place ≡ word_read f (pinned_slot (home_of f x)) place
  same-read s carries n within place = by home.blocks
    where
      by : IsInOneBlock (block_words o) (home_of f x) ⊎ IsSpreadHome f (block_words o) label (home_of f x)
          → word_read f (slot_held s (slot_of_word f (home_of f x) n)) place
          ≡ word_read f (pinned_slot (home_of f x)) place
      by (inl one) =
          let h = home_of f x in
          let read = resident-read o f homes s x label shape carries known resident in
          ap (λ (k : ℕ). word_read f (slot_held s k) place) (single-slot h.slot (further_slots h) (n / words_a_block f) one.single)
          ∙ read.word place
      by (inr spread) =
          let h = home_of f x in
          let bank = secret-bank spread.secret in
          encrypted_read o f homes (slot_held s (slot_of_word f h n)) place
          (word-bank s carries n within ∙ ap Some bank)
          ∙ sym (hidden_read o f homes h place bank)

  module _ (depth : ℕ) (s : SymState) (carries : CarriesInArm f s) (to : ℕ) (small : to + 3 < first_kept f)
      (place : Option Value) (held : tree_held s to ≡ place) where
    -- a word of one slot
    slot-leaves : (k : ℕ) → IsKnown (slot_held s k)
        → LeavesTree o f depth s (Ldw to k to ∷ []) (word_gap f ∷ []) to (word_read f (slot_held s k) place) no_loads
    slot-leaves k bound =
        let word = sets-ldw o depth f homes.profile s to k to (slot_held s k) place carries.registers
        (omega (arith, small)) refl bound held in
        record {
          state = word.state;
          walked = word.walked;
          carries = carries-same f s word.state carries word.slots
              (λ r high. word.other r (λ e. absurd (omega (arith, e, high, small)))) word.registers;
          held = word.held;
          below = λ r lt. word.other r (λ e. absurd (omega (arith, e, lt)));
          slots = λ j. ap (λ (slots : List SymSlot). get_or slots j AnySlot) word.slots;
        }

    -- a word that is selected among several slots
    selected-leaves : IsSpreadHome f (block_words o) label (home_of f x)
        → LeavesTree o f depth s (selected_read (words_a_block f) (slots_of_home (home_of f x)) to)
        (selection.read_shows f.profile (length (slots_of_home (home_of f x)))) to
        (word_read f (pinned_slot (home_of f x)) place) no_loads
    selected-leaves spread =
        let h = home_of f x in
        let slots = slots_of_home h in
        let bank = secret-bank spread.secret in
        let walks = walks-read o depth to (words_a_block f) 1 slots s (omega (arith, small)) (omega arith) (omega arith)
        carries.registers (λ i k is. each-bank s carries i k is ∙ ap Some bank) in
        record {
          state = walks.state;
          walked
              = subst (λ (p : Profile). Walked o depth s (selected_read (words_a_block f) slots to)
              (selection.read_shows p (length slots)) walks.state) homes.profile walks.walked;
          carries = carries-same f s walks.state carries walks.slots (λ r high. walks.above r (omega (arith, high, small)))
              walks.registers;
          held = walks.value ∙ sym (hidden_read o f homes h place bank);
          below = walks.below;
          slots = λ j. ap (λ (slots : List SymSlot). get_or slots j AnySlot) walks.slots;
        }

    -- the word that an index names
    pub read-leaves : (fixed : Option ℤ)
        → LeavesTree o f depth s (read_by true f (home_of f x) fixed to) (read_shows_by true f (home_of f x) fixed) to
        (word_read f (pinned_slot (home_of f x)) place) no_loads
    read-leaves (Some z) =
        let h = home_of f x in
        let n = h.word + fixed_word h z in
        let within = fixed-within z in
        let k = slot_of_word f h n in
        subst (λ (v : Option Value). LeavesTree o f depth s (Ldw to k to ∷ []) (word_gap f ∷ []) to v no_loads)
        (same-read s carries n within place)
        (slot-leaves k (bound-of_bank (slot_held s k) h.bank (word-bank s carries n within)))
    read-leaves None = by home.blocks
      where
        by : IsInOneBlock (block_words o) (home_of f x) ⊎ IsSpreadHome f (block_words o) label (home_of f x)
            → LeavesTree o f depth s (selected_read (words_a_block f) (slots_of_home (home_of f x)) to)
            (selection.read_shows f.profile (length (slots_of_home (home_of f x)))) to
            (word_read f (pinned_slot (home_of f x)) place) no_loads
        by (inl one) =
            let h = home_of f x in
            let read = resident-read o f homes s x label shape carries known resident in
            subst (λ (more : List ℕ). LeavesTree o f depth s (selected_read (words_a_block f) (h.slot ∷ more) to)
            (selection.read_shows f.profile (length (h.slot ∷ more))) to (word_read f (pinned_slot h) place) no_loads)
            (sym one.single)
            (subst (λ (v : Option Value). LeavesTree o f depth s (Ldw to h.slot to ∷ []) (word_gap f ∷ []) to v no_loads)
            (read.word place) (slot-leaves h.slot read.bound))
        by (inr spread) = selected-leaves spread
