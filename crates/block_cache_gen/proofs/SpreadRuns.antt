-- Runs of the code that reads and writes words of resident variables, whether in one slot or in several.
use Rattle.std.proofs.Common.{◌≡◌, ◌≢◌, ℕ, ◌+◌, ◌*◌, ◌/◌, ◌%◌, ◌<◌, ◌≤◌, true, ℤ, pos, List, [], ◌∷◌, length, get_or, set, Option, Some, None, inl, inr, refl, sym, ap, ◌∙◌, subst, arith, pow_pos}
use Rattle.std.specs.List.{slice_get}
use Rattle.gr_word.specs.Prelude.{IsWord}
use Rattle.gr_word.specs.declared.variables.Label.{Label}
use Rattle.gr_word.specs.declared.variables.Shape.{Shape}
use Rattle.lt_isa.specs.declared.instructions.Instr.TheVariants.{Ldw}
use Rattle.lt_isa.specs.Prelude.{Parts, block_words, IsInRange, Slot, Bound, State, register, slot, word_in, slot_words, IsShaped}
use Rattle.stretches.specs.Prelude.{StandsAt, RunsThrough, Sets}
use Rattle.stretches.proofs.RunningThrough.{runs-weaker}
use Rattle.src_tree.specs.Prelude.{context_of, Store, variable_number, words_of_number, with_word}
use Rattle.scratch_alloc.specs.Prelude.{pin_to}
use Rattle.word_selection.specs.Prelude.{IsOutside, selected_read, selected_write, IsBound, ReadsWord, WritesWord}
use Rattle.word_selection.specs.declared.effects.Effect.TheVariants.{Stores, Keeps}
use Rattle.word_selection.proofs.ReadLaws.{runs-read}
use Rattle.word_selection.proofs.WriteLaws.{runs-write, runs-write_back}
use Rattle.block_cache_gen.specs.declared.frames.Mode.{Mode}
use Rattle.block_cache_gen.specs.declared.frames.Mode.TheVariants.{Public, Real, Mirrored}
use Rattle.block_cache_gen.specs.Prelude.{Home, Setting, HasHomes, IsSpreadHome, home_of, slots_of_home, slot_of_word, words_a_block, register_for, further_slots, store_code, effect_of, stored_among, read_by, stored_by, fixed_word, StandsFor, FitsHomes, HoldsBlock, Assigns, by_mode, words_written, first_kept}
use Rattle.block_cache_gen.proofs.HomeFacts.{block_words-is}
use Rattle.block_cache_gen.proofs.ResidentWrites.{put-done, runs-put}
use Rattle.block_cache_gen.proofs.Stands.{stands-like}
use Rattle.block_cache_gen.proofs.WordSlots.{few-further, single-slot, slot-pinned, several}
use Rattle.word_selection.specs.SlotSteps as selection
use Rattle.block_cache_gen.proofs.ResidentRuns as of_resident

-- what a run leaves that reads a word: register `to` has it, and all else is as before, but for scratch registers
pub record Reads (f : Setting) (to : ℕ) (word : ℤ) (s t : State) : Type 0 where
  pub value : register t to ≡ word
  pub below : (r : ℕ) → r < to → register t r ≡ register s r
  pub above : (r : ℕ) → first_kept f ≤ r → register t r ≡ register s r
  pub slots : t.slots ≡ s.slots
  pub banks : t.banks ≡ s.banks

is-bound : {bound : Slot} {bank block : ℕ} → HoldsBlock bound bank block → IsBound bound
is-bound h = record { bank = _; block = _; words = h.words; is = h.holds }

outside-two : (v : ℕ) → IsOutside 1 4 v → v ≢ 2
outside-two v (inl under) same = omega (arith, under, same)
outside-two v (inr over) same = omega (arith, over, same)

-- a variable in several slots
module _ (o : Parts) (fits : IsInRange o) (f : Setting) (homes : HasHomes o f) (store : Store)
    (store_fits : FitsHomes f store) (x : List ℕ) (label : Label) (shape : Shape)
    (known : context_of f.decls x ≡ Some (label, shape)) (resident : (home_of f x).resident ≡ true)
    (free : register_for f x ≡ None) (next : ℕ) (rest : List ℕ) (some : further_slots (home_of f x) ≡ next ∷ rest)
    (n : ℕ) (within : n < (home_of f x).length) (s : State) (shaped : IsShaped o s) (stands : StandsFor f s store) where
  abbrev h : Home
  h = home_of f x

  abbrev slots : List ℕ
  slots = h.slot ∷ next ∷ rest

  abbrev number : ℕ
  number = h.word + n

  spread : IsSpreadHome f (block_words o) label h
  spread =
      several f (block_words o) label h (homes.residents x label shape known resident) (block_words-is homes)
      (pow_pos o.profile.block_log) next rest some

  count : length slots ≡ 1 + length (further_slots h)
  count = let e = ap length some in omega (arith, e)

  few : length slots ≤ 8
  few = omega (arith, few-further h, count)

  inside : number < length slots * block_words o
  inside =
      let less = spread.inside in
      let word = spread.word in
      let whole : length slots * block_words o ≡ (1 + length (further_slots h)) * block_words o = ap (λ m. m * block_words o) count in
      omega (arith, less, word, within, whole)

  bound : (i k : ℕ) → slice_get slots i ≡ Some k → IsBound (slot s k)
  bound i k got =
      is-bound (stands.pinned k (pin_to h.bank (h.block + i))
      (slot-pinned f (block_words o) label h (homes.residents x label shape known resident) (block_words-is homes)
      (pow_pos o.profile.block_log) i k (ap (λ more. slice_get (h.slot ∷ more) i) some ∙ got)))

  same_slot : get_or slots (number / block_words o) h.slot ≡ slot_of_word f h number
  same_slot =
      ap (λ more. get_or (h.slot ∷ more) (number / block_words o) h.slot) (sym some)
      ∙ ap (λ z. get_or (slots_of_home h) (number / z) h.slot) (block_words-is homes)

  held : HoldsBlock (slot s (slot_of_word f h number)) h.bank (h.block + number / words_a_block f)
  held = of_resident.resident-held o fits f homes store store_fits x label shape known resident n within s stands

  -- the word whose number a register has is read
  runs-selected_read : (to : ℕ) → to + 3 < first_kept f → register s to ≡ pos number
      → StandsAt o s.place (selected_read (words_a_block f) slots to)
      → RunsThrough o s (selected_read (words_a_block f) slots to) []
      (Reads f to (get_or (words_of_number store (variable_number f.decls x)) n (pos 0)) s)
  runs-selected_read to small has =
      let value = get_or (words_of_number store (variable_number f.decls x)) n (pos 0) in
      let k = slot_of_word f h number in
      let word : word_in (slot_words (slot s (get_or slots (number / block_words o) h.slot))) (number % block_words o)
      ≡ value =
      ap (λ j. word_in (slot_words (slot s j)) (number % block_words o)) same_slot
      ∙ ap (λ w. word_in (slot_words (slot s k)) (number % w)) (block_words-is homes)
      ∙ stands.residents x label shape n known resident free within in
      subst
      (λ w. StandsAt o s.place (selected_read w slots to)
      → RunsThrough o s (selected_read w slots to) [] (Reads f to value s))
      (block_words-is homes)
      (λ at.
      runs-weaker s (selected_read (block_words o) slots to) [] [] (ReadsWord to _ s) (Reads f to value s)
      (runs-read o fits to (omega (arith, small)) slots few s number h.slot shaped bound has inside at)
      refl
      (λ t shape reads. record {
        value = reads.value ∙ word;
        below = reads.below;
        above = λ r over. reads.above r (omega (arith, small, over));
        slots = reads.slots;
        banks = reads.banks;
      }))

  -- so is one whose slot has the word written
  written : (mode : Mode) (value : ℤ) → IsWord value → (t : State)
      → WritesWord 1 (set s.slots (get_or slots (number / block_words o) h.slot)
      (selection.with_word (block_words o) (slot s (get_or slots (number / block_words o) h.slot)) (pos number) value)) s t
      → ((words : List ℤ) → words_written mode words (number % block_words o) value
      ≡ set words (number % block_words o) value)
      → Assigns f (by_mode mode (with_word store (variable_number f.decls x) n value) store) t
  written mode value is t writes effect =
      let k = slot_of_word f h number in
      let w = block_words o in
      put-done o fits f homes store store_fits mode x label shape known resident free n within value is s shaped stands held
      t
      (writes.slots_are
      ∙ ap (λ j. set s.slots j (selection.with_word w (slot s j) (pos number) value)) same_slot
      ∙ ap (λ b. set s.slots k (selection.with_word w b (pos number) value)) held.holds
      ∙ ap (λ l. set s.slots k (Bound h.bank (h.block + number / words_a_block f) l)) (sym (effect held.words)))
      writes.banks (λ r over. writes.above r (omega (arith, over)))

  -- the word whose number register 1 has is written
  runs-selected_write : (mode : Mode) (v : ℕ) (apart : IsOutside 1 4 v) (value : ℤ) → IsWord value → register s v ≡ value
      → register s 1 ≡ pos number
      → StandsAt o s.place (selected_write (effect_of mode) (block_words o) v slots 1)
      → RunsThrough o s (selected_write (effect_of mode) (block_words o) v slots 1) []
      (Assigns f (by_mode mode (with_word store (variable_number f.decls x) n value) store))
  runs-selected_write Public v apart value is has place at =
      runs-weaker s (selected_write Stores (block_words o) v slots 1) [] [] _ _
      (runs-write o fits 1 v (omega arith) apart slots few s shaped bound value number h.slot has place inside at)
      refl (λ t shape writes. written Public value is t writes (λ words. refl))
  runs-selected_write Real v apart value is has place at =
      runs-weaker s (selected_write Stores (block_words o) v slots 1) [] [] _ _
      (runs-write o fits 1 v (omega arith) apart slots few s shaped bound value number h.slot has place inside at)
      refl (λ t shape writes. written Real value is t writes (λ words. refl))
  runs-selected_write Mirrored v apart value is has place at =
      runs-weaker s (selected_write Keeps (block_words o) v slots 1) [] [] _ _
      (runs-write_back o fits 1 v (omega arith) apart slots few s shaped bound at)
      refl
      (λ t shape writes. record {
        stands = stands-like f s t store writes.slots_are writes.banks
            (λ r over. writes.above r (omega (arith, over))) stands;
        fits = store_fits;
      })

module _ (o : Parts) (fits : IsInRange o) (f : Setting) (homes : HasHomes o f) (store : Store)
    (store_fits : FitsHomes f store) (x : List ℕ) (label : Label) (shape : Shape)
    (known : context_of f.decls x ≡ Some (label, shape)) (resident : (home_of f x).resident ≡ true)
    (free : register_for f x ≡ None) (n : ℕ) (within : n < (home_of f x).length) (s : State) (shaped : IsShaped o s)
    (stands : StandsFor f s store) where
  one : (to : ℕ) → to + 3 < first_kept f → register s to ≡ pos ((home_of f x).word + n)
      → StandsAt o s.place (Ldw to (slot_of_word f (home_of f x) ((home_of f x).word + n)) to ∷ [])
      → RunsThrough o s (Ldw to (slot_of_word f (home_of f x) ((home_of f x).word + n)) to ∷ []) []
      (Reads f to (get_or (words_of_number store (variable_number f.decls x)) n (pos 0)) s)
  one to small has at =
      let value = get_or (words_of_number store (variable_number f.decls x)) n (pos 0) in
      runs-weaker s (Ldw to (slot_of_word f (home_of f x) ((home_of f x).word + n)) to ∷ []) [] [] (Sets s to value)
      (Reads f to value s)
      (of_resident.runs-read o fits f homes store store_fits x label shape known resident to n s shaped stands within free
      (omega (arith, small)) has at)
      refl
      (λ t shape sets. record {
        value = sets.value;
        below = λ r under. sets.others r (λ same. absurd (omega (arith, under, same)));
        above = λ r over. sets.others r (λ same. absurd (omega (arith, small, over, same)));
        slots = sets.slots;
        banks = sets.banks;
      })

  single : (mode : Mode) (v : ℕ) (apart : IsOutside 1 4 v) (value : ℤ) → IsWord value → register s v ≡ value
      → register s 1 ≡ pos ((home_of f x).word + n)
      → StandsAt o s.place (store_code f.reduces mode (slot_of_word f (home_of f x) ((home_of f x).word + n)) v)
      → RunsThrough o s (store_code f.reduces mode (slot_of_word f (home_of f x) ((home_of f x).word + n)) v) []
      (Assigns f (by_mode mode (with_word store (variable_number f.decls x) n value) store))
  single mode v apart value is has place at =
      runs-put o fits f homes store store_fits mode x label shape known resident free n within v (outside-two v apart) value
      is s shaped stands has place at

  -- a word of a resident variable is read, by its number in a register
  pub runs-read_by : (to : ℕ) → to + 3 < first_kept f → register s to ≡ pos ((home_of f x).word + n)
      → (fixed : Option ℤ) → ((z : ℤ) → fixed ≡ Some z → fixed_word (home_of f x) z ≡ n)
      → StandsAt o s.place (read_by true f (home_of f x) fixed to)
      → RunsThrough o s (read_by true f (home_of f x) fixed to) []
      (Reads f to (get_or (words_of_number store (variable_number f.decls x)) n (pos 0)) s)
  runs-read_by to small has (Some z) is at =
      let h = home_of f x in
      let value = get_or (words_of_number store (variable_number f.decls x)) n (pos 0) in
      subst
      (λ m. StandsAt o s.place (Ldw to (slot_of_word f h (h.word + m)) to ∷ [])
      → RunsThrough o s (Ldw to (slot_of_word f h (h.word + m)) to ∷ []) [] (Reads f to value s))
      (sym (is z refl)) (λ at. one to small has at) at
  runs-read_by to small has None is at = by (further_slots (home_of f x)) refl at
    where
      by : (more : List ℕ) → further_slots (home_of f x) ≡ more
          → StandsAt o s.place (selected_read (words_a_block f) ((home_of f x).slot ∷ more) to)
          → RunsThrough o s (selected_read (words_a_block f) ((home_of f x).slot ∷ more) to) []
          (Reads f to (get_or (words_of_number store (variable_number f.decls x)) n (pos 0)) s)
      by [] none at =
          let h = home_of f x in
          subst
          (λ k. StandsAt o s.place (Ldw to k to ∷ [])
          → RunsThrough o s (Ldw to k to ∷ []) []
          (Reads f to (get_or (words_of_number store (variable_number f.decls x)) n (pos 0)) s))
          (single-slot h.slot (further_slots h) ((h.word + n) / words_a_block f) none) (λ at. one to small has at) at
      by (next ∷ rest) some at =
          runs-selected_read o fits f homes store store_fits x label shape known resident free next rest some n within s
          shaped stands to small has at

  -- and one is written, by its number in register 1
  pub runs-stored_by : (mode : Mode) (v : ℕ) (apart : IsOutside 1 4 v) (value : ℤ) → IsWord value → register s v ≡ value
      → register s 1 ≡ pos ((home_of f x).word + n)
      → (fixed : Option ℤ) → ((z : ℤ) → fixed ≡ Some z → fixed_word (home_of f x) z ≡ n)
      → StandsAt o s.place (stored_by true f mode (home_of f x) fixed v)
      → RunsThrough o s (stored_by true f mode (home_of f x) fixed v) []
      (Assigns f (by_mode mode (with_word store (variable_number f.decls x) n value) store))
  runs-stored_by mode v apart value is has place (Some z) fixed at =
      let h = home_of f x in
      subst
      (λ m. StandsAt o s.place (store_code f.reduces mode (slot_of_word f h (h.word + m)) v)
      → RunsThrough o s (store_code f.reduces mode (slot_of_word f h (h.word + m)) v) []
      (Assigns f (by_mode mode (with_word store (variable_number f.decls x) n value) store)))
      (sym (fixed z refl)) (λ at. single mode v apart value is has place at) at
  runs-stored_by mode v apart value is has place None fixed at = by (further_slots (home_of f x)) refl at
    where
      by : (more : List ℕ) → further_slots (home_of f x) ≡ more
          → StandsAt o s.place (stored_among f mode (home_of f x).slot more v)
          → RunsThrough o s (stored_among f mode (home_of f x).slot more v) []
          (Assigns f (by_mode mode (with_word store (variable_number f.decls x) n value) store))
      by [] none at =
          let h = home_of f x in
          subst
          (λ k. StandsAt o s.place (store_code f.reduces mode k v)
          → RunsThrough o s (store_code f.reduces mode k v) []
          (Assigns f (by_mode mode (with_word store (variable_number f.decls x) n value) store)))
          (single-slot h.slot (further_slots h) ((h.word + n) / words_a_block f) none)
          (λ at. single mode v apart value is has place at) at
      by (next ∷ rest) some at =
          let h = home_of f x in
          subst
          (λ w. StandsAt o s.place (selected_write (effect_of mode) w v (h.slot ∷ next ∷ rest) 1)
          → RunsThrough o s (selected_write (effect_of mode) w v (h.slot ∷ next ∷ rest) 1) []
          (Assigns f (by_mode mode (with_word store (variable_number f.decls x) n value) store)))
          (block_words-is homes)
          (runs-selected_write o fits f homes store store_fits x label shape known resident free next rest some n within s
          shaped stands mode v apart value is has place)
          at
