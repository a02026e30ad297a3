-- How long the code is that reads or stores an element's word: one instruction or two if one slot has it, and some for
-- each slot if it is selected among those of several.
use Rattle.std.proofs.Common.{◌≡◌, ℕ, suc, ◌+◌, ◌*◌, ◌≤◌, Bool, true, false, ℤ, List, [], ◌∷◌, ◌++◌, length, Option, Some, None, refl, arith, length-append}
use Rattle.std.specs.Prelude.{not}
use Rattle.std.proofs.lemmas.List.{length-map}
use Rattle.lt_isa.specs.declared.instructions.Instr.TheVariants.{Stb}
use Rattle.word_selection.specs.declared.effects.Effect.{Effect}
use Rattle.word_selection.specs.Prelude.{instruction_of, left_register, choice_steps, choices_steps, read_steps, selected_read, mask_register, first_steps, next_mask_steps, exchange_steps, exchanges_steps, write_steps, selected_write}
use Rattle.block_cache_gen.specs.declared.frames.Mode.{Mode}
use Rattle.block_cache_gen.specs.declared.frames.Mode.TheVariants.{Public, Real, Mirrored}
use Rattle.block_cache_gen.specs.Prelude.{Home, Setting, further_slots, slot_of_word, words_a_block, effect_of, fixed_word, read_by, read_code, store_code, stored_among, stored_by, stored_code}
use Rattle.block_cache_gen.proofs.WordSlots.{few-further}

choices-length : (size i : ℕ) (slots : List ℕ) → length (choices_steps size i slots) ≡ 7 * length slots
choices-length size i [] = refl
choices-length size i (slot ∷ slots) =
    let rest = choices-length size (suc i) slots in
    let whole = length-append (choice_steps (i * size) slot (left_register slots)) (choices_steps size (suc i) slots) in
    omega (arith, rest, whole)

-- at most 7 instructions a slot
pub selected_read-short : (size slot : ℕ) (more : List ℕ) (to : ℕ)
    → (1 ≤ length (selected_read size (slot ∷ more) to)) × (length (selected_read size (slot ∷ more) to) ≤ 1 + 7 * length more)
selected_read-short size slot more to =
    let all = length-map (read_steps size (slot ∷ more)) (instruction_of to) in
    let rest = choices-length size 1 more in
    (omega (arith, all, rest), omega (arith, all, rest))

next-length : (size i : ℕ) (turn : Bool) (slots : List ℕ) → length (next_mask_steps size i turn slots) ≤ 4
next-length size i turn [] = omega arith
next-length size i turn (slot ∷ slots) = omega arith

exchanges-length : (effect : Effect) (size value i : ℕ) (turn : Bool) (slots : List ℕ)
    → length (exchanges_steps effect size value i turn slots) ≤ 9 * length slots
exchanges-length effect size value i turn [] = omega arith
exchanges-length effect size value i turn (slot ∷ slots) =
    let rest = exchanges_steps effect size value (suc i) (not turn) slots in
    let here = exchange_steps effect value slot (mask_register turn) in
    let first = length-append (next_mask_steps size i turn slots) (here ++ rest) in
    let second = length-append here rest in
    let most = exchanges-length effect size value (suc i) (not turn) slots in
    omega (arith, first, second, most, next-length size i turn slots)

-- at most 9 instructions a slot
pub selected_write-short : (effect : Effect) (size value slot : ℕ) (more : List ℕ) (to : ℕ)
    → (1 ≤ length (selected_write effect size value (slot ∷ more) to))
    × (length (selected_write effect size value (slot ∷ more) to) ≤ 8 + 9 * length more)
selected_write-short effect size value slot more to =
    let all = length-map (write_steps effect size value (slot ∷ more)) (instruction_of to) in
    let rest = exchanges_steps effect size value 1 false more in
    let whole = length-append (first_steps effect size value slot) rest in
    let most = exchanges-length effect size value 1 false more in
    (omega (arith, all, whole), omega (arith, all, whole, most))

-- a read takes 29 instructions at most, and one at least
read_by-short : (resident : Bool) (f : Setting) (h : Home) (fixed : Option ℤ) (to : ℕ)
    → (1 ≤ length (read_by resident f h fixed to)) × (length (read_by resident f h fixed to) ≤ 29)
read_by-short false f h fixed to = (omega arith, omega arith)
read_by-short true f h (Some z) to = (omega arith, omega arith)
read_by-short true f h None to =
    let code = selected_read-short (words_a_block f) h.slot (further_slots h) to in
    (code.0, omega (arith, code.1, few-further h))

pub read-short : (f : Setting) (h : Home) (fixed : Option ℤ) (to : ℕ)
    → (1 ≤ length (read_code f h fixed to)) × (length (read_code f h fixed to) ≤ 29)
read-short f h fixed to = read_by-short h.resident f h fixed to

-- a store two at most if one slot has the word
pub store_short : (once : Bool) (mode : Mode) (slot value : ℕ)
    → (1 ≤ length (store_code once mode slot value)) × (length (store_code once mode slot value) ≤ 2)
store_short once Public slot value = (omega arith, omega arith)
store_short false Real slot value = (omega arith, omega arith)
store_short true Real slot value = (omega arith, omega arith)
store_short false Mirrored slot value = (omega arith, omega arith)
store_short true Mirrored slot value = (omega arith, omega arith)

-- and 44 at most with the store of the block
among-short : (f : Setting) (mode : Mode) (slot value : ℕ) (more : List ℕ) → length more ≤ 4
    → (1 ≤ length (stored_among f mode slot more value)) × (length (stored_among f mode slot more value) ≤ 44)
among-short f mode slot value [] few =
    let store = store_short f.reduces mode slot value in (store.0, omega (arith, store.1))
among-short f mode slot value (next ∷ more) few =
    let code = selected_write-short (effect_of mode) (words_a_block f) value slot (next ∷ more) 1 in
    (code.0, omega (arith, code.1, few))

stored_by-short : (resident : Bool) (f : Setting) (mode : Mode) (h : Home) (fixed : Option ℤ) (value : ℕ)
    → (1 ≤ length (stored_by resident f mode h fixed value)) × (length (stored_by resident f mode h fixed value) ≤ 44)
stored_by-short false f mode h fixed value =
    let store = store_short f.reduces mode h.slot value in
    let whole = length-append (store_code f.reduces mode h.slot value) (Stb h.slot ∷ []) in
    (omega (arith, store.0, whole), omega (arith, store.1, whole))
stored_by-short true f mode h (Some z) value =
    let store = store_short f.reduces mode (slot_of_word f h (h.word + fixed_word h z)) value in
    (store.0, omega (arith, store.1))
stored_by-short true f mode h None value = among-short f mode h.slot value (further_slots h) (few-further h)

pub stored-short : (f : Setting) (mode : Mode) (h : Home) (fixed : Option ℤ) (value : ℕ)
    → (1 ≤ length (stored_code f mode h fixed value)) × (length (stored_code f mode h fixed value) ≤ 44)
stored-short f mode h fixed value = stored_by-short h.resident f mode h fixed value
