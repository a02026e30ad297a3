-- Every state of a run has the shape of its object, from the start on and after every step.
use Rattle.std.proofs.Common.{◌≡◌, ℕ, ◌^◌, ◌<◌, ℤ, pos, List, [], length, get_or, set, Option, sym, ap, ◌∙◌, subst, ⊎_elim, arith}
use Rattle.std.proofs.lemmas.Bool.{cases_lt, cases_eq}
use Rattle.std.proofs.lemmas.List.{get_or_past, get_or-set_same, get_or-set_other, length-set}
use Rattle.std.proofs.lemmas.List.Elements.{All-set}
use Rattle.std.proofs.Math.Facts.{sfits_lit}
use Rattle.std.proofs.Math.Nat.{mod-lt}
use Rattle.gr_word.specs.Prelude.{IsWord, compared, unsigned_of, AreWords}
use Rattle.gr_word.proofs.Words.{IsWord-applied}
use Rattle.lt_isa.specs.declared.instructions.Instr.{Instr}
use Rattle.lt_isa.specs.declared.instructions.Instr.TheVariants.{Nop, Halt, Li, Alu, Ldb, Stb, Idb, Ldw, Stw, Jmp, Br}
use Rattle.lt_isa.specs.Prelude.{Parts, blocks_of, IsInRange, InstrFits, State, Observed, Slot, slot, register, word_in, bank_blocks, block_at, set_register, set_slot, set_block, Goes, Stops, executed, step, block_named, IsShaped, SlotFits, IsBlock}
use Rattle.lt_isa.proofs.Cycles.{blocks-least, blocks-most}
use Rattle.lt_isa.proofs.Steps.{OnStepResult, on_goes, on_stops, on_step, on_bound, on_choice, instruction-fits, bound-fits}

-- a word that is read from a list of words is a word, also past the list's end
pub IsWord-at : (words : List ℤ) → AreWords words → (i : ℕ) → IsWord (word_in words i)
IsWord-at words all i =
    ⊎_elim
    (λ within. all i (pos 0) within)
    (λ past. subst IsWord (sym (get_or_past words i (pos 0) past)) (sfits_lit tt))
    (cases_lt i (length words))

-- a register holds a word
pub IsWord-register : (o : Parts) (s : State) → IsShaped o s → (r : ℕ) → IsWord (register s r)
IsWord-register o s shaped r = IsWord-at s.registers shaped.registers r

-- a block stays a block if one of its words is replaced
pub IsBlock-set : (o : Parts) (words : List ℤ) (i : ℕ) (word : ℤ) → IsBlock o words → IsWord word
    → IsBlock o (set words i word)
IsBlock-set o words i word block fits =
    record { size = length-set words i word ∙ block.size; all_words = All-set IsWord words i word fits block.all_words }

-- the shape doesn't depend on the place or the cycle
pub IsShaped-moved : (o : Parts) (s : State) (place cycle : ℕ) → IsShaped o s
    → IsShaped o (record s { place = place; cycle = cycle })
IsShaped-moved o s place cycle shaped = record {
  register_count = shaped.register_count;
  registers = shaped.registers;
  slot_count = shaped.slot_count;
  slots = shaped.slots;
  bank_count = shaped.bank_count;
  block_counts = shaped.block_counts;
  blocks = shaped.blocks;
}

pub IsShaped-set_register : (o : Parts) (s : State) (r : ℕ) (word : ℤ) → IsShaped o s → IsWord word
    → IsShaped o (set_register s r word)
IsShaped-set_register o s r word shaped fits = record {
  register_count = length-set s.registers r word ∙ shaped.register_count;
  registers = All-set IsWord s.registers r word fits shaped.registers;
  slot_count = shaped.slot_count;
  slots = shaped.slots;
  bank_count = shaped.bank_count;
  block_counts = shaped.block_counts;
  blocks = shaped.blocks;
}

-- another block in a slot keeps the shape
pub IsShaped-set_slot : (o : Parts) (s : State) (k : ℕ) (found : Slot) → IsShaped o s → SlotFits o found
    → IsShaped o (set_slot s k found)
IsShaped-set_slot o s k found shaped fits = record {
  register_count = shaped.register_count;
  registers = shaped.registers;
  slot_count = length-set s.slots k found ∙ shaped.slot_count;
  slots = All-set (SlotFits o) s.slots k found fits shaped.slots;
  bank_count = shaped.bank_count;
  block_counts = shaped.block_counts;
  blocks = shaped.blocks;
}

-- a property of the item at a place, after one item of the list was replaced
at_set : {X : Type 0} (P : X → Type 0) (xs : List X) (i j : ℕ) (y d : X) → j < length xs → (j ≡ i → P y)
    → P (get_or xs j d) → P (get_or (set xs i y) j d)
at_set P xs i j y d within here there =
    ⊎_elim
    (λ same. subst (λ n. P (get_or (set xs i y) n d)) (sym same)
    (subst P (sym (get_or-set_same xs i y d (subst (λ n. n < length xs) same within))) (here same)))
    (λ other. subst P (sym (get_or-set_other xs i j y d other)) there)
    (cases_eq j i)

pub IsShaped-set_block : (o : Parts) (s : State) (b a : ℕ) (words : List ℤ) → IsShaped o s → IsBlock o words
    → IsShaped o (set_block s b a words)
IsShaped-set_block o s b a words shaped fits =
    let blocks = set (bank_blocks s b) a words in
    record {
      register_count = shaped.register_count;
      registers = shaped.registers;
      slot_count = shaped.slot_count;
      slots = shaped.slots;
      bank_count = length-set s.banks b blocks ∙ shaped.bank_count;
      block_counts = λ c exists.
          at_set (λ bank. length bank ≡ blocks_of o c) s.banks b c blocks []
          (subst (λ n. c < n) (sym shaped.bank_count) exists)
          (λ same. length-set (bank_blocks s b) a words ∙ ap (λ n. length (bank_blocks s n)) (sym same)
          ∙ shaped.block_counts c exists)
          (shaped.block_counts c exists);
      blocks = λ c e exists within.
          at_set (λ bank. IsBlock o (get_or bank e [])) s.banks b c blocks []
          (subst (λ n. c < n) (sym shaped.bank_count) exists)
          (λ same.
          at_set (IsBlock o) (bank_blocks s b) a e words []
          (subst (λ n. e < length (bank_blocks s n)) same
          (subst (λ n. e < n) (sym (shaped.block_counts c exists)) within))
          (λ same_block. fits)
          (subst (λ n. IsBlock o (block_at s n e)) same (shaped.blocks c e exists within)))
          (shaped.blocks c e exists within);
    }

-- the block that a word names is one of its bank
pub block_named-below : (o : Parts) → IsInRange o → (b : ℕ) → b < length o.banks → (word : ℤ)
    → block_named o b word < blocks_of o b
block_named-below o fits b exists word = mod-lt (unsigned_of word) (blocks-least o fits b exists)

-- the state after an instruction has the shape
executed-shaped : (o : Parts) → IsInRange o → (s : State) → IsShaped o s → (i : Instr)
    → InstrFits (length o.banks) i → OnStepResult (λ event t. IsShaped o t) (IsShaped o) (executed o s i)
executed-shaped o fits s shaped (Li rd value) operands =
    IsShaped-set_register o _ rd value (IsShaped-moved o s _ _ shaped) operands.1
executed-shaped o fits s shaped (Alu op rd ra rb) operands =
    IsShaped-set_register o _ rd _ (IsShaped-moved o s _ _ shaped)
    (IsWord-applied op _ _ (IsWord-register o s shaped ra) (IsWord-register o s shaped rb))
executed-shaped o fits s shaped (Ldb k b r) operands =
    let below = block_named-below o fits b operands.1 (register s r) in
    IsShaped-set_slot o _ k _ (IsShaped-moved o s _ _ shaped)
    (record { bank_exists = operands.1; block_exists = below; holds_block = shaped.blocks b _ operands.1 below })
executed-shaped o fits s shaped (Stb k) operands =
    on_bound _ _ (slot s k) _ (λ b a words bound.
    IsShaped-set_block o _ b a words (IsShaped-moved o s _ _ shaped)
    (bound-fits o s shaped k b a words bound).holds_block)
executed-shaped o fits s shaped (Idb rd k) operands =
    on_bound _ _ (slot s k) _ (λ b a words bound.
    let was = bound-fits o s shaped k b a words bound in
    let small : a < 2 ^ 63 = omega (arith, was.block_exists, blocks-most o fits b was.bank_exists) in
    IsShaped-set_register o _ rd (pos a) (IsShaped-moved o s _ _ shaped) (record { sfits = small }))
executed-shaped o fits s shaped (Ldw rd k ro) operands =
    on_bound _ _ (slot s k) _ (λ b a words bound.
    IsShaped-set_register o _ rd _ (IsShaped-moved o s _ _ shaped)
    (IsWord-at words (bound-fits o s shaped k b a words bound).holds_block.all_words _))
executed-shaped o fits s shaped (Stw rs k ro) operands =
    on_bound _ _ (slot s k) _ (λ b a words bound.
    let was = bound-fits o s shaped k b a words bound in
    IsShaped-set_slot o _ k _ (IsShaped-moved o s _ _ shaped)
    (record {
      bank_exists = was.bank_exists;
      block_exists = was.block_exists;
      holds_block = IsBlock-set o words _ _ was.holds_block (IsWord-register o s shaped rs);
    }))
executed-shaped o fits s shaped (Br cmp ra rb offset) operands =
    on_choice _ _ (compared cmp (register s ra) (register s rb)) _ _ (IsShaped-moved o s _ _ shaped)
    (IsShaped-moved o s _ _ shaped)
executed-shaped o fits s shaped other operands = IsShaped-moved o s _ _ shaped

step-shaped_both : (o : Parts) → IsInRange o → (s : State) → IsShaped o s
    → OnStepResult (λ event t. IsShaped o t) (IsShaped o) (step o s)
step-shaped_both o fits s shaped =
    on_step _ _ o s (λ i at. executed-shaped o fits s shaped i (instruction-fits o fits s.place i at))

-- a step that leads to a state keeps the shape
pub step-shaped : (o : Parts) → IsInRange o → (s : State) → IsShaped o s → (event : Option Observed) (t : State)
    → step o s ≡ Goes event t → IsShaped o t
step-shaped o fits s shaped event t goes = on_goes _ _ (step o s) event t (step-shaped_both o fits s shaped) goes

-- a step that stops keeps the shape
pub stop-shaped : (o : Parts) → IsInRange o → (s : State) → IsShaped o s → (t : State) → step o s ≡ Stops t
    → IsShaped o t
stop-shaped o fits s shaped t stops = on_stops _ _ (step o s) t (step-shaped_both o fits s shaped) stops
