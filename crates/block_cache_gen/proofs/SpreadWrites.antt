-- How many words the code stores that reads or writes a word of an array, in one slot or in several. With and without
-- effect it is the same but for the registers that are stored, or a read in place of a store.
use Rattle.std.proofs.Common.{◌≡◌, ℕ, zero, suc, ◌+◌, ◌<◌, ◌≤◌, ◌==◌, Bool, true, false, not, ℤ, List, [], ◌∷◌, ◌++◌, length, Option, Some, None, refl, sym, ap, ◌∙◌, subst, arith}
use Rattle.std.specs.Prelude.{◌&&◌, ◌*◌, cond}
use Rattle.std.specs.List.{AllByRecursion}
use Rattle.std.proofs.lemmas.Bool.{eqb-true, le-ltb, ne_eqb}
use Rattle.std.proofs.lemmas.List.{map-append}
use Rattle.std.proofs.lemmas.List.Sums.{sum_by-append}
use Rattle.gr_word.specs.declared.operations.Op.TheVariants.{Xor}
use Rattle.lt_isa.specs.declared.instructions.Instr.{Instr}
use Rattle.lt_isa.specs.declared.instructions.Instr.TheVariants.{Li, Alu, Ldw, Stw, Stb}
use Rattle.held_registers.specs.Prelude.{public_zero}
use Rattle.word_selection.specs.declared.effects.Effect.{Effect}
use Rattle.word_selection.specs.declared.effects.Effect.TheVariants.{Stores, Keeps}
use Rattle.word_selection.specs.Prelude.{SlotStep, Constant, Compute, Combine, Read, Write, IsOutside, StepFits, instruction_of, code_of, mask_register, mask_steps, difference_steps, written_from, choices_steps, first_steps, next_mask_steps, exchange_steps, exchanges_steps, read_steps, write_steps, selected_read, selected_write}
use Rattle.strength_reduction.proofs.Registers.{numbered-to}
use Rattle.word_selection.proofs.ReadLaws.{read-fits}
use Rattle.word_selection.proofs.WriteLaws.{write-fits}
use Rattle.strength_reduction.specs.Prelude.{numbered}
use Rattle.block_cache_gen.specs.declared.frames.Mode.{Mode}
use Rattle.block_cache_gen.specs.declared.frames.Mode.TheVariants.{Public, Real, Mirrored}
use Rattle.block_cache_gen.specs.Prelude.{further_slots, Home, Setting, slots_of_home, slot_of_word, words_a_block, effect_of, fixed_word, read_by, read_code, store_code, stored_among, stored_by, stored_code, is_held_register, is_store, counts_as_store, is_write, stored_words, written_words, stores_by, stores_in, Itself, Stored, Mirrors, Ends, Goes}
use Rattle.block_cache_gen.specs.Twins as twins

-- ---- what doesn't depend on whether accesses are made once

code_of-append : (to : ℕ) (xs ys : List SlotStep) → code_of to (xs ++ ys) ≡ code_of to xs ++ code_of to ys
code_of-append to xs ys = map-append (instruction_of to) xs ys

-- a read doesn't count as a store if its register isn't below that of the word's number
read-plain : (rd ro : ℕ) → ro ≤ rd → counts_as_store rd ro ≡ false
read-plain rd ro low = by (ro == 1) refl
  where
    by : (b : Bool) → (ro == 1) ≡ b → (b && (rd == 0)) ≡ false
    by false is = refl
    by true is = ne_eqb rd 0 (λ e. omega (arith, low, eqb-true ro 1 is, e))

-- steps that read, by the number of a word in their first register
abbrev ReadsByFirst : SlotStep → Type 0
ReadsByFirst (Read to slot at) = at ≡ 0
ReadsByFirst (Write from slot at) = ⊥
ReadsByFirst other = Unit {0}

choices-read : (size i : ℕ) (slots : List ℕ) → AllByRecursion ReadsByFirst (choices_steps size i slots)
choices-read size i [] = tt
choices-read size i (slot ∷ slots) = (tt, (tt, (tt, (refl, (tt, (tt, (tt, choices-read size (suc i) slots)))))))

read-reads : (size : ℕ) (slots : List ℕ) → AllByRecursion ReadsByFirst (read_steps size slots)
read-reads size [] = tt
read-reads size (slot ∷ slots) = (refl, choices-read size 1 slots)

numbered-least : (base r : ℕ) → base ≤ numbered base r
numbered-least base zero = omega arith
numbered-least base (suc r) = omega arith

-- a register of expressions holds nothing for the whole run
low-plain : (r : ℕ) → r < 21 → is_held_register r ≡ false
low-plain r low = le-ltb public_zero r (omega arith)

module _ (once : Bool) where
  stored-append : (xs ys : List Instr) → stored_words once (xs ++ ys) ≡ stored_words once xs + stored_words once ys
  stored-append xs ys = sum_by-append (λ i. cond (is_store once i) 1 0) xs ys

  written-append : (xs ys : List Instr) → written_words once (xs ++ ys) ≡ written_words once xs + written_words once ys
  written-append xs ys = sum_by-append (λ i. cond (is_write once i) 1 0) xs ys

  steps-append : (to : ℕ) (xs ys : List SlotStep)
      → stored_words once (code_of to (xs ++ ys)) ≡ stored_words once (code_of to xs) + stored_words once (code_of to ys)
  steps-append to xs ys = ap (stored_words once) (code_of-append to xs ys) ∙ stored-append (code_of to xs) (code_of to ys)

  pub read-counts : (rd slot ro : ℕ) → ro ≤ rd → stored_words once (Ldw rd slot ro ∷ []) ≡ 0
  read-counts rd slot ro low = ap (λ (b : Bool). 0 + cond (b && once) 1 0) (read-plain rd ro low)

  pub read-none : (rd slot ro : ℕ) → ro ≤ rd → written_words once (Ldw rd slot ro ∷ []) ≡ 0
  read-none rd slot ro low = ap (λ (b : Bool). 0 + cond (b && once) 1 0) (read-plain rd ro low)

  -- ---- steps that read

  reading-stores : (to : ℕ) (steps : List SlotStep) → AllByRecursion ReadsByFirst steps
      → stored_words once (code_of to steps) ≡ 0
  reading-stores to [] reads = refl
  reading-stores to (Constant rd value ∷ steps) reads =
      let rest = reading-stores to steps reads.1 in
      stored-append (instruction_of to (Constant rd value) ∷ []) (code_of to steps) ∙ omega (arith, rest)
  reading-stores to (Compute op rd left right ∷ steps) reads =
      let rest = reading-stores to steps reads.1 in
      stored-append (instruction_of to (Compute op rd left right) ∷ []) (code_of to steps) ∙ omega (arith, rest)
  reading-stores to (Combine op rd left outside ∷ steps) reads =
      let rest = reading-stores to steps reads.1 in
      stored-append (instruction_of to (Combine op rd left outside) ∷ []) (code_of to steps) ∙ omega (arith, rest)
  reading-stores to (Read rd slot at ∷ steps) reads =
      let rest = reading-stores to steps reads.1 in
      let first : numbered to at ≡ to = ap (numbered to) reads.0 in
      let none = read-counts (numbered to rd) slot (numbered to at) (omega (arith, first, numbered-least to rd)) in
      stored-append (instruction_of to (Read rd slot at) ∷ []) (code_of to steps) ∙ omega (arith, none, rest)
  reading-stores to (Write from slot at ∷ steps) reads = absurd (reads.0)

  -- ---- steps that write: one word of each slot

  exchange-stores : (effect : Effect) (value slot mask : ℕ)
      → stored_words once (code_of 1 (exchange_steps effect value slot mask)) ≡ 1
  exchange-stores effect value slot mask = refl

  next-stores : (size i : ℕ) (turn : Bool) (slots : List ℕ)
      → stored_words once (code_of 1 (next_mask_steps size i turn slots)) ≡ 0
  next-stores size i turn [] = refl
  next-stores size i turn (slot ∷ slots) = refl

  exchanges-stores : (effect : Effect) (size value i : ℕ) (turn : Bool) (slots : List ℕ)
      → stored_words once (code_of 1 (exchanges_steps effect size value i turn slots)) ≡ length slots
  exchanges-stores effect size value i turn [] = refl
  exchanges-stores effect size value i turn (slot ∷ slots) =
      let masks = next_mask_steps size i turn slots in
      let exchange = exchange_steps effect value slot (mask_register turn) in
      let more = exchanges_steps effect size value (suc i) (not turn) slots in
      let all = steps-append 1 masks (exchange ++ more) in
      let both = steps-append 1 exchange more in
      let none = next-stores size i turn slots in
      let one = exchange-stores effect value slot (mask_register turn) in
      let rest = exchanges-stores effect size value (suc i) (not turn) slots in
      all ∙ omega (arith, both, none, one, rest)

  first-stores : (effect : Effect) (size value slot : ℕ)
      → stored_words once (code_of 1 (first_steps effect size value slot)) ≡ 1
  first-stores effect size value slot = refl

  selected-stores : (effect : Effect) (size value : ℕ) (slots : List ℕ)
      → stored_words once (selected_write effect size value slots 1) ≡ length slots
  selected-stores effect size value [] = refl
  selected-stores effect size value (slot ∷ slots) =
      let all = steps-append 1 (first_steps effect size value slot) (exchanges_steps effect size value 1 false slots) in
      let one = first-stores effect size value slot in
      let rest = exchanges-stores effect size value 1 false slots in
      all ∙ omega (arith, one, rest)

  -- ---- the words that steps store are those that they write

  same-count : (i : Instr) (code : List Instr) → is_write once i ≡ is_store once i → written_words once code ≡ stored_words once code
      → written_words once (i ∷ code) ≡ stored_words once (i ∷ code)
  same-count i code is rest =
      let one : written_words once (i ∷ []) ≡ stored_words once (i ∷ []) = ap (λ (b : Bool). 0 + cond b 1 0) is in
      let first = written-append (i ∷ []) code in
      let second = stored-append (i ∷ []) code in
      first ∙ (omega (arith, one, rest) ∙ sym second)

  steps-count : (base most : ℕ) (Used : ℕ → Type 0) (steps : List SlotStep) → base + most < 21
      → AllByRecursion (StepFits base most Used) steps
      → written_words once (code_of base steps) ≡ stored_words once (code_of base steps)
  steps-count base most Used [] room fits = refl
  steps-count base most Used (Constant rd value ∷ steps) room fits =
      same-count (Li (numbered base rd) value) (code_of base steps) refl (steps-count base most Used steps room fits.1)
  steps-count base most Used (Compute op rd left right ∷ steps) room fits =
      let first = fits.0 in
      same-count (Alu op (numbered base rd) (numbered base left) (numbered base right)) (code_of base steps)
      (low-plain (numbered base rd) (let low = numbered-to base most rd first.0 in omega (arith, low, room)))
      (steps-count base most Used steps room fits.1)
  steps-count base most Used (Combine op rd left outside ∷ steps) room fits =
      let first = fits.0 in
      same-count (Alu op (numbered base rd) (numbered base left) outside) (code_of base steps)
      (low-plain (numbered base rd) (let low = numbered-to base most rd first.0 in omega (arith, low, room)))
      (steps-count base most Used steps room fits.1)
  steps-count base most Used (Read rd slot at ∷ steps) room fits =
      same-count (Ldw (numbered base rd) slot (numbered base at)) (code_of base steps) refl
      (steps-count base most Used steps room fits.1)
  steps-count base most Used (Write from slot at ∷ steps) room fits =
      same-count (Stw (numbered base from) slot (numbered base at)) (code_of base steps) refl
      (steps-count base most Used steps room fits.1)

  -- ---- a word of an array is read

  selected_read-stores : (size : ℕ) (slots : List ℕ) (to : ℕ) → stored_words once (selected_read size slots to) ≡ 0
  selected_read-stores size slots to = reading-stores to (read_steps size slots) (read-reads size slots)

  pub read-stores : (f : Setting) (h : Home) (fixed : Option ℤ) (to : ℕ) → stored_words once (read_code f h fixed to) ≡ 0
  read-stores f h fixed to = by h.resident fixed
    where
      by : (b : Bool) (fixed : Option ℤ) → stored_words once (read_by b f h fixed to) ≡ 0
      by false fixed = read-counts to h.slot to (omega arith)
      by true (Some z) = read-counts to (slot_of_word f h (h.word + fixed_word h z)) to (omega arith)
      by true None = selected_read-stores (words_a_block f) (slots_of_home h) to

  pub read-writes : (f : Setting) (h : Home) (fixed : Option ℤ) (to : ℕ) → to + 3 < 21
      → written_words once (read_code f h fixed to) ≡ 0
  read-writes f h fixed to low = by h.resident fixed
    where
      by : (b : Bool) (fixed : Option ℤ) → written_words once (read_by b f h fixed to) ≡ 0
      by false fixed = read-none to h.slot to (omega arith)
      by true (Some z) = read-none to (slot_of_word f h (h.word + fixed_word h z)) to (omega arith)
      by true None =
          steps-count to 3 (λ k. Unit {0}) (read_steps (words_a_block f) (slots_of_home h)) low
          (read-fits to (λ k. Unit {0}) (words_a_block f) (slots_of_home h) (λ k one. tt))
          ∙ selected_read-stores (words_a_block f) (slots_of_home h) to

  -- ---- a word of an array is stored

  one-access : (mode : Mode) (slot value : ℕ)
      → (stored_words once (store_code once mode slot value) ≡ 1)
      × (written_words once (store_code once mode slot value) ≡ 1)
  one-access Public slot value = (refl, refl)
  one-access Real slot value = by once
    where
      by : (b : Bool)
          → (stored_words b (store_code b Real slot value) ≡ 1) × (written_words b (store_code b Real slot value) ≡ 1)
      by false = (refl, refl)
      by true = (refl, refl)
  one-access Mirrored slot value = by once
    where
      by : (b : Bool)
          → (stored_words b (store_code b Mirrored slot value) ≡ 1)
          × (written_words b (store_code b Mirrored slot value) ≡ 1)
      by false = (refl, refl)
      by true = (refl, refl)

  pub store-stores : (mode : Mode) (slot value : ℕ) → stored_words once (store_code once mode slot value) ≡ 1
  store-stores mode slot value = (one-access mode slot value).0

  pub store-writes : (mode : Mode) (slot value : ℕ) → written_words once (store_code once mode slot value) ≡ 1
  store-writes mode slot value = (one-access mode slot value).1

  -- the store of the block accesses no word
  one-access_of_block : (mode : Mode) (slot value : ℕ)
      → (stored_words once (store_code once mode slot value ++ Stb slot ∷ []) ≡ 1)
      × (written_words once (store_code once mode slot value ++ Stb slot ∷ []) ≡ 1)
  one-access_of_block mode slot value =
      let no_store : stored_words once (Stb slot ∷ []) ≡ 0 = refl in
      let no_write : written_words once (Stb slot ∷ []) ≡ 0 = refl in (
        stored-append (store_code once mode slot value) (Stb slot ∷ [])
            ∙ omega (arith, no_store, store-stores mode slot value),
        written-append (store_code once mode slot value) (Stb slot ∷ [])
            ∙ omega (arith, no_write, store-writes mode slot value),
      )

pub stored-stores : (f : Setting) (mode : Mode) (h : Home) (fixed : Option ℤ) (value : ℕ)
    → stored_words f.reduces (stored_code f mode h fixed value) ≡ stores_in h fixed
stored-stores f mode h fixed value = by h.resident fixed
  where
    among : (more : List ℕ) → stored_words f.reduces (stored_among f mode h.slot more value) ≡ length (h.slot ∷ more)
    among [] = store-stores f.reduces mode h.slot value
    among (next ∷ rest) = selected-stores f.reduces (effect_of mode) (words_a_block f) value (h.slot ∷ next ∷ rest)

    by : (b : Bool) (fixed : Option ℤ) → stored_words f.reduces (stored_by b f mode h fixed value) ≡ stores_by b h fixed
    by false fixed = (one-access_of_block f.reduces mode h.slot value).0
    by true (Some z) = store-stores f.reduces mode (slot_of_word f h (h.word + fixed_word h z)) value
    by true None = among (further_slots h)

pub stored-writes : (f : Setting) (mode : Mode) (h : Home) (fixed : Option ℤ) (value : ℕ) → IsOutside 1 4 value
    → written_words f.reduces (stored_code f mode h fixed value) ≡ stores_in h fixed
stored-writes f mode h fixed value apart = by h.resident fixed
  where
    among : (more : List ℕ) → written_words f.reduces (stored_among f mode h.slot more value) ≡ length (h.slot ∷ more)
    among [] = store-writes f.reduces mode h.slot value
    among (next ∷ rest) =
        let slots = h.slot ∷ next ∷ rest in
        steps-count f.reduces 1 4 (λ k. Unit {0}) (write_steps (effect_of mode) (words_a_block f) value slots) (omega arith)
        (write-fits 1 value apart (λ k. Unit {0}) (effect_of mode) (words_a_block f) slots (λ k one. tt))
        ∙ selected-stores f.reduces (effect_of mode) (words_a_block f) value slots

    by : (b : Bool) (fixed : Option ℤ) → written_words f.reduces (stored_by b f mode h fixed value) ≡ stores_by b h fixed
    by false fixed = (one-access_of_block f.reduces mode h.slot value).1
    by true (Some z) = store-writes f.reduces mode (slot_of_word f h (h.word + fixed_word h z)) value
    by true None = among (further_slots h)

-- ---- with and without effect

module _ (once : Bool) where
  -- code mirrors itself, and so do parts in sequence
  pub mirrors-itself : (code : List Instr) → Mirrors once code code
  mirrors-itself [] = Ends
  mirrors-itself (i ∷ code) = Goes i i code code (Itself i) (mirrors-itself code)

  pub mirrors-append : (one other xs ys : List Instr) → Mirrors once one other → Mirrors once xs ys
      → Mirrors once (one ++ xs) (other ++ ys)
  mirrors-append one other xs ys Ends rest = rest
  mirrors-append one other xs ys (Goes i j is js instead more) rest =
      Goes i j (is ++ xs) (js ++ ys) instead (mirrors-append is js xs ys more rest)

  steps-mirror : (to : ℕ) (one other more others : List SlotStep) → Mirrors once (code_of to one) (code_of to other)
      → Mirrors once (code_of to more) (code_of to others)
      → Mirrors once (code_of to (one ++ more)) (code_of to (other ++ others))
  steps-mirror to one other more others first second =
      subst (λ (code : List Instr). Mirrors once code (code_of to (other ++ others))) (sym (code_of-append to one more))
      (subst (λ (code : List Instr). Mirrors once (code_of to one ++ code_of to more) code)
      (sym (code_of-append to other others))
      (mirrors-append (code_of to one) (code_of to other) (code_of to more) (code_of to others) first second))

  -- the last step stores another register
  written-mirrors : (to : ℕ) (steps : List SlotStep) (from old slot : ℕ)
      → Mirrors once (code_of to (steps ++ Write from slot 0 ∷ [])) (code_of to (steps ++ Write old slot 0 ∷ []))
  written-mirrors to steps from old slot =
      steps-mirror to steps steps (Write from slot 0 ∷ []) (Write old slot 0 ∷ []) (mirrors-itself (code_of to steps))
      (Goes (instruction_of to (Write from slot 0)) (instruction_of to (Write old slot 0)) [] []
      (Stored (numbered to from) (numbered to old) slot (numbered to 0)) Ends)

  exchanges-mirror : (to size value i : ℕ) (turn : Bool) (slots : List ℕ)
      → Mirrors once (code_of to (exchanges_steps Stores size value i turn slots))
      (code_of to (exchanges_steps Keeps size value i turn slots))
  exchanges-mirror to size value i turn [] = Ends
  exchanges-mirror to size value i turn (slot ∷ slots) =
      let masks = next_mask_steps size i turn slots in
      let one = exchange_steps Stores value slot (mask_register turn) in
      let other = exchange_steps Keeps value slot (mask_register turn) in
      let more = exchanges_steps Stores size value (suc i) (not turn) slots in
      let others = exchanges_steps Keeps size value (suc i) (not turn) slots in
      steps-mirror to masks masks (one ++ more) (other ++ others) (mirrors-itself (code_of to masks))
      (steps-mirror to one other more others (written-mirrors to (difference_steps value slot (mask_register turn) ++ Compute Xor 2 2 1 ∷ []) (written_from Stores)
      (written_from Keeps) slot)
      (exchanges-mirror to size value (suc i) (not turn) slots))

  selected-mirrors : (to size value slot : ℕ) (slots : List ℕ)
      → Mirrors once (selected_write Stores size value (slot ∷ slots) to)
      (selected_write Keeps size value (slot ∷ slots) to)
  selected-mirrors to size value slot slots =
      let begins =
      mask_steps (1 * size) (mask_register false)
      ++ (difference_steps value slot (mask_register false) ++ Combine Xor 2 2 value ∷ []) in
      steps-mirror to (first_steps Stores size value slot) (first_steps Keeps size value slot)
      (exchanges_steps Stores size value 1 false slots) (exchanges_steps Keeps size value 1 false slots)
      (written-mirrors to begins (written_from Stores) (written_from Keeps) slot)
      (exchanges-mirror to size value 1 false slots)

  -- A word is read in place of its store, or the old word is stored.
  pub store-mirrors : (slot value : ℕ) → Mirrors once (store_code once Real slot value) (store_code once Mirrored slot value)
  store-mirrors slot value = by once
    where
      by : (b : Bool) → Mirrors b (store_code b Real slot value) (store_code b Mirrored slot value)
      by false =
          Goes (Ldw 2 slot 1) (Ldw 2 slot 1) (Stw value slot 1 ∷ []) (Stw 2 slot 1 ∷ []) (Itself (Ldw 2 slot 1))
          (Goes (Stw value slot 1) (Stw 2 slot 1) [] [] (Stored value 2 slot 1) Ends)
      by true = Goes (Stw value slot 1) (Ldw 0 slot 1) [] [] (twins.Read value slot refl) Ends

pub stored-mirrors : (f : Setting) (h : Home) (fixed : Option ℤ) (value : ℕ)
    → Mirrors f.reduces (stored_code f Real h fixed value) (stored_code f Mirrored h fixed value)
stored-mirrors f h fixed value = by h.resident fixed
  where
    among : (more : List ℕ)
        → Mirrors f.reduces (stored_among f Real h.slot more value) (stored_among f Mirrored h.slot more value)
    among [] = store-mirrors f.reduces h.slot value
    among (next ∷ rest) = selected-mirrors f.reduces 1 (words_a_block f) value h.slot (next ∷ rest)

    by : (b : Bool) (fixed : Option ℤ)
        → Mirrors f.reduces (stored_by b f Real h fixed value) (stored_by b f Mirrored h fixed value)
    by false fixed =
        mirrors-append f.reduces (store_code f.reduces Real h.slot value) (store_code f.reduces Mirrored h.slot value)
        (Stb h.slot ∷ []) (Stb h.slot ∷ []) (store-mirrors f.reduces h.slot value)
        (mirrors-itself f.reduces (Stb h.slot ∷ []))
    by true (Some z) = store-mirrors f.reduces (slot_of_word f h (h.word + fixed_word h z)) value
    by true None = among (further_slots h)
