-- Runs of the code that finds the place of a resident variable's word in its block, and that reads it there.
use Rattle.std.proofs.Common.{◌≡◌, ◌≢◌, ℕ, ◌+◌, ◌/◌, ◌%◌, ◌^◌, ◌<◌, true, ℤ, pos, List, [], ◌∷◌, ◌++◌, get_or, append-nil, Option, Some, None, refl, sym, ap, ◌∙◌, subst, arith, mod-lt, pow_pos, ◌==◌, eqb-true}
use Rattle.std.proofs.lemmas.Bool.{cond_both}
use Rattle.std.proofs.lemmas.Nat.{pow_below}
use Rattle.gr_word.specs.Prelude.{unsigned_of}
use Rattle.gr_word.proofs.SmallNumbers.{add_small}
use Rattle.gr_word.specs.declared.operations.Op.TheVariants.{Add}
use Rattle.gr_word.specs.declared.variables.Label.{Label}
use Rattle.gr_word.specs.declared.variables.Shape.{Shape}
use Rattle.lt_isa.specs.declared.instructions.Instr.{Instr}
use Rattle.lt_isa.specs.declared.instructions.Instr.TheVariants.{Li, Ldw}
use Rattle.lt_isa.specs.Prelude.{Parts, block_words, IsInRange, State, register, slot, word_in, slot_words, IsShaped, word_named}
use Rattle.stretches.specs.Prelude.{StandsAt, RunsThrough, Sets}
use Rattle.stretches.proofs.RunningThrough.{runs-one, runs-append, runs-weaker, sets-li, sets-ldw}
use Rattle.src_tree.specs.Prelude.{context_of, Store, variable_number, words_of_number, evaluated, Tree}
use Rattle.block_cache_gen.specs.declared.frames.Mode.{Mode}
use Rattle.block_cache_gen.specs.declared.indexes.Numbering.{Numbering}
use Rattle.block_cache_gen.specs.Prelude.{pin_at, slot_of_word, words_a_block, Home, Setting, HasHomes, home_of, register_for, applied_code, fixed_index, fixed_word, numbered_code, numbered_register, offset_code, placed_code, StandsFor, FitsHomes, HoldsBlock, accesses, word_number, seen_of_all, LeavesWord, first_kept}
use Rattle.scratch_alloc.specs.Prelude.{pin_to}
use Rattle.block_cache_gen.proofs.HomeFacts.{block_words-is}
use Rattle.block_cache_gen.proofs.WordSlots.{word-pinned, words-few}
use Rattle.block_cache_gen.proofs.Stands.{stands-like, stands-set}
use Rattle.block_cache_gen.proofs.IndexRuns.{FitsNumbering, Numbers, Reduces, Computes, numbered-apart, numbered-first, runs-applied, runs-numbered}
use Rattle.block_cache_gen.proofs.OperandRuns.{LeavesAt, RunsValue, runs-nothing}
use Rattle.block_cache_gen.proofs.AccessRuns.{fixed-is}

-- the first word of a variable is added to a number, unless that is 0
runs-offset : (o : Parts) (fits : IsInRange o) (f : Setting) (store : Store) (h : Home) (to from n : ℕ) (s : State)
    → IsShaped o s → StandsFor f s store → register s from ≡ pos n → from ≢ to + 1 → ((h.word == 0) ≡ true → from ≡ to)
    → to + 2 < first_kept f → h.word + n < 2 ^ 63 → StandsAt o s.place (offset_code f h to from)
    → RunsThrough o s (offset_code f h to from) [] (Reduces f to (h.word + n) s)
runs-offset o fits f store h to from n s shaped stands has apart own below small =
    cond_both (h.word == 0) [] (applied_code f Add to from (to + 1) (pos h.word))
    (λ code. StandsAt o s.place code → RunsThrough o s code [] (Reduces f to (h.word + n) s))
    (λ none at.
    let first : h.word ≡ 0 = eqb-true h.word 0 none in
    runs-nothing s (Reduces f to (h.word + n) s) shaped
    (record {
      word = ap (register s) (sym (own none)) ∙ has ∙ ap pos (let e : n ≡ h.word + n = omega arith in e);
      keeps = record { below = λ r under. refl; above = λ r over. refl; slots = refl; banks = refl };
    }))
    (λ some at.
    let value = pos (h.word + n) in
    let code = applied_code f Add to from (to + 1) (pos h.word) in
    runs-weaker s code [] [] (Computes f to value s) (Reduces f to (h.word + n) s)
    (runs-applied o fits f store Add to from (to + 1) (pos h.word) (pos n) value s shaped stands has apart (omega arith)
    (omega arith)
    (add_small n h.word (omega arith) ∙ ap pos (omega arith)) at)
    refl
    (λ t shape done. record { word = done.word; keeps = done.keeps }))

module _ (o : Parts) (fits : IsInRange o) (f : Setting) (homes : HasHomes o f) (store : Store)
    (store_fits : FitsHomes f store) (x : List ℕ) (label : Label) (shape : Shape)
    (known : context_of f.decls x ≡ Some (label, shape)) (resident : (home_of f x).resident ≡ true) where
  -- the number of a word is one of the variable's
  pub resident_number-is : (z : ℤ) → unsigned_of z % (home_of f x).length ≡ word_number f store x z
  resident_number-is z = ap (λ m. unsigned_of z % m) (sym (store_fits.lengths x label shape known))

  -- an index that is a number names that word
  pub fixed-number : (i : Tree) (z : ℤ) → fixed_index (home_of f x) i ≡ Some z
      → fixed_word (home_of f x) z ≡ word_number f store x (evaluated f.decls store i)
  fixed-number i z is =
      subst (λ e. fixed_word (home_of f x) z ≡ word_number f store x (evaluated f.decls store e))
      (sym (fixed-is (home_of f x) i z is)) (resident_number-is z)

  pub resident-within : (z : ℤ) → word_number f store x z < (home_of f x).length
  resident-within z =
      subst (λ n. n < (home_of f x).length) (resident_number-is z)
      (mod-lt (unsigned_of z) (homes.residents x label shape known resident).length.0)

  -- the slot of a word, counted from the first word of the first block on, is pinned to the word's block
  pub pinned-word : (n : ℕ) → n < (home_of f x).length
      → pin_at f (slot_of_word f (home_of f x) ((home_of f x).word + n))
      ≡ Some (pin_to (home_of f x).bank ((home_of f x).block + ((home_of f x).word + n) / words_a_block f))
  pinned-word n within =
      word-pinned f (block_words o) label (home_of f x) (homes.residents x label shape known resident)
      (block_words-is homes) (pow_pos o.profile.block_log) ((home_of f x).word + n) (omega (arith, within))

  -- the block is in its slot
  pub resident-held : (n : ℕ) → n < (home_of f x).length → (s : State) → StandsFor f s store
      → HoldsBlock (slot s (slot_of_word f (home_of f x) ((home_of f x).word + n))) (home_of f x).bank
      ((home_of f x).block + ((home_of f x).word + n) / words_a_block f)
  resident-held n within s stands =
      let h = home_of f x in
      let number = h.word + n in
      stands.pinned (slot_of_word f h number) (pin_to h.bank (h.block + number / words_a_block f))
      (pinned-word n within)

  -- the word that a register names is read
  pub runs-read : (to n : ℕ) (s : State) → IsShaped o s → StandsFor f s store → n < (home_of f x).length → register_for f x ≡ None
      → to < first_kept f → register s to ≡ pos ((home_of f x).word + n)
      → StandsAt o s.place (Ldw to (slot_of_word f (home_of f x) ((home_of f x).word + n)) to ∷ [])
      → RunsThrough o s (Ldw to (slot_of_word f (home_of f x) ((home_of f x).word + n)) to ∷ []) []
      (Sets s to (get_or (words_of_number store (variable_number f.decls x)) n (pos 0)))
  runs-read to n s shaped stands within free small has at =
      let h = home_of f x in
      let number = h.word + n in
      let k = slot_of_word f h number in
      let held = resident-held n within s stands in
      let value = get_or (words_of_number store (variable_number f.decls x)) n (pos 0) in
      let named : word_named o (register s to) ≡ number % words_a_block f =
      ap (λ word. word_named o word) has ∙ ap (λ w. number % w) (block_words-is homes) in
      let reads : word_in held.words (word_named o (register s to)) ≡ value =
      ap (λ i. word_in held.words i) named
      ∙ ap (λ b. word_in (slot_words b) (number % words_a_block f)) (sym held.holds)
      ∙ stands.residents x label shape n known resident free within in
      runs-one s (Ldw to k to) [] (Sets s to value) at
      (sets-ldw o fits s shaped to k to h.bank (h.block + number / words_a_block f) held.words value (omega arith)
      held.holds reads)

  -- the place of the word is found, after the code of the index
  pub runs-placed : (mode : Mode) (to from : ℕ) (i : Tree) (code : List Instr) (s : State) → IsShaped o s
      → StandsFor f s store → to + 2 < first_kept f → from ≢ to + 1 → RunsValue o f store mode to from i code s
      → (way : Numbering) → FitsNumbering way (home_of f x) to from (evaluated f.decls store i)
      → (fixed : Option ℤ) → fixed_index (home_of f x) i ≡ fixed
      → StandsAt o s.place (placed_code way f (home_of f x) to from fixed code)
      → RunsThrough o s (placed_code way f (home_of f x) to from fixed code)
      (seen_of_all mode s.banks s.slots (accesses f store i))
      (LeavesWord f store (accesses f store i) to
      (pos ((home_of f x).word + word_number f store x (evaluated f.decls store i))) s)
  runs-placed mode to from i code s shaped stands small other run way own (Some z) is at =
      let h = home_of f x in
      let place = pos (h.word + fixed_word h z) in
      subst
      (λ e.
      RunsThrough o s (Li to place ∷ []) (seen_of_all mode s.banks s.slots (accesses f store e))
      (LeavesWord f store (accesses f store e) to
      (pos (h.word + word_number f store x (evaluated f.decls store e))) s))
      (sym (fixed-is h i z is))
      (runs-weaker s (Li to place ∷ []) [] [] (Sets s to place)
      (LeavesWord f store [] to (pos (h.word + word_number f store x z)) s)
      (runs-one s (Li to place) [] (Sets s to place) at (sets-li o fits s shaped to place (omega arith)))
      refl
      (λ t shape sets. record {
        value = sets.value ∙ ap (λ n. pos (h.word + n)) (resident_number-is z);
        below = λ r under. sets.others r (λ same. absurd (omega arith));
        banks = sets.banks;
        slots = sets.slots;
        stands = stands-set sets (omega arith) stands;
      }))
  runs-placed mode to from i code s shaped stands small other run way own None is at =
      let h = home_of f x in
      let home = homes.residents x label shape known resident in
      let index = evaluated f.decls store i in
      let n = word_number f store x index in
      let before = accesses f store i in
      let seen = seen_of_all mode s.banks s.slots before in
      let number = numbered_code way f h to from in
      let at_number = numbered_register way to from in
      let added = offset_code f h to at_number in
      let Done : State → Type 0 = LeavesWord f store before to (pos (h.word + n)) s in
      let small_place : h.word + n < 2 ^ 63 =
      let most = pow_below o.profile.block_log 10 (omega (arith, fits.profile.block_log)) in
      let few = words-few f (block_words o) label h home in
      omega (arith, few, resident-within index, most) in
      runs-weaker s (code ++ (number ++ added)) (seen ++ []) seen Done Done
      (runs-append s code (number ++ added) seen [] (LeavesAt f store before to from index s) Done at
      run
      (λ t shape leaves at'.
      runs-append t number added [] []
      (Numbers f at_number to (unsigned_of index % h.length) t) Done at'
      (runs-numbered o fits f store way h to from t index shape leaves.stands leaves.value other own small home.length.0 home.length.1)
      (λ u shape' reduces at''.
      let word : register u at_number ≡ pos n = reduces.word ∙ ap pos (resident_number-is index) in
      let stands' = stands-like f t u store reduces.keeps.slots reduces.keeps.banks reduces.keeps.above leaves.stands in
      runs-weaker u added [] [] (Reduces f to (h.word + n) u) Done
      (runs-offset o fits f store h to at_number n u shape' stands' word (numbered-apart way to from other)
      (numbered-first way h to from index own) small small_place at'')
      refl
      (λ v shape'' offset.
      let banks = offset.keeps.banks ∙ reduces.keeps.banks in
      let slots = offset.keeps.slots ∙ reduces.keeps.slots in
      record {
        value = offset.word;
        below = λ r under. offset.keeps.below r under ∙ reduces.keeps.below r under ∙ leaves.below r under;
        banks = banks ∙ leaves.banks;
        slots = slots ∙ leaves.slots;
        stands =
            stands-like f t v store slots banks
            (λ r over. offset.keeps.above r over ∙ reduces.keeps.above r over) leaves.stands;
      }))))
      (append-nil seen)
      (λ t shape done. done)
