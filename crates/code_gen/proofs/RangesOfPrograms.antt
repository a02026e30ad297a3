-- The code and the notes of a whole program are in their ranges, and so is an object that is made of them.
use Rattle.std.proofs.Common.{◌≡◌, ℕ, suc, ◌+◌, ◌-◌, ◌*◌, ◌<◌, ◌≤◌, ℤ, pos, List, [], ◌∷◌, ◌++◌, length, length-append, get_or, Option, Some, None, refl, ap, ◌∙◌, arith}
use Rattle.std.specs.Prelude.{All}
use Rattle.std.specs.List.{slice_get}
use Rattle.gr_base.specs.Prelude.{Within, EachAfter}
use Rattle.gr_word.specs.declared.operations.Op.TheVariants.{Sub}
use Rattle.lt_isa.specs.declared.symbols.Note.{Note}
use Rattle.lt_isa.specs.declared.instructions.Instr.{Instr}
use Rattle.lt_isa.specs.declared.instructions.Instr.TheVariants.{Li, Alu, Ldb, Ldw, Stw, Stb, Halt}
use Rattle.lt_isa.specs.Prelude.{most_instructions, most_notes, InstrFits, NoteFits, next_place}
use Rattle.src_tree.specs.Prelude.{context_of, max_weight, LowBlock, block_weight, Block, TypedBlock}
use Rattle.scratch_alloc.specs.declared.plans.Pin.{Pin}
use Rattle.gr_word.specs.Prelude.{IsWord}
use Rattle.held_registers.specs.declared.registers.Held.TheVariants.{SecretZero, Number, Scalar}
use Rattle.block_cache_gen.specs.Prelude.{home_numbered, begin_code, end_code, each_held, held_beginning, held_ending, Held, Setting, pin_at, first_blocks, BlockHasWords}
use Rattle.block_cache_gen.proofs.Ranged.{homes_fit-ranged}
use Rattle.block_cache_gen.proofs.RangesOfCode.{HomeFits, HomesFit, CodeFits, NoCode, Before, code-all, code-both, small-word}
use Rattle.block_cache_gen.proofs.RangesOfNotes.{NotesRise, PinsLow, rise-fits}
use Rattle.code_gen.specs.Prelude.{padding_of, block_code, load_code, pin_store, each_slot, beginning, ending, program_code, program_notes}
use Rattle.compiled_objects.specs.Prelude.{at_start}
use Rattle.code_gen.proofs.PassedStatements.{block-noted}
use Rattle.code_gen.proofs.RangedParts.{rise-ranged}
use Rattle.code_gen.proofs.AcceptedPrograms.{begins-guarded}
use Rattle.code_gen.proofs.RangesOfStatements.{row-public, row-count, rows-fits}
use Rattle.gr_word.specs.declared.variables.Label.TheVariants as label

-- the code of each slot is as long as the slots' codes together
loads_short : (slot : ℕ) (blocks : List (Option Pin)) → length (each_slot load_code slot blocks) ≤ 2 * length blocks
loads_short slot [] = omega arith
loads_short slot (None ∷ blocks) = omega (arith, loads_short (slot + 1) blocks)
loads_short slot (Some p ∷ blocks) = omega (arith, loads_short (slot + 1) blocks)

-- the slots that are pinned, from one on, are among the eight
abbrev AreInEight : (slot : ℕ) → List (Option Pin) → Type 0
AreInEight slot pins = (i : ℕ) (p : Pin) → get_or pins i None ≡ Some p → slot + i < 8

in_eight-rest : (slot : ℕ) (pin : Option Pin) (pins : List (Option Pin))
    → AreInEight slot (pin ∷ pins) → AreInEight (slot + 1) pins
in_eight-rest slot pin pins few i p is = let h = few (suc i) p is in omega (arith, h)

stores_short : (slot : ℕ) (pins : List (Option Pin))
    → AreInEight slot pins → length (each_slot pin_store slot pins) ≤ 8 - slot
stores_short slot [] few = omega arith
stores_short slot (None ∷ pins) few = omega (arith, stores_short (slot + 1) pins (in_eight-rest slot None pins few))
stores_short slot (Some p ∷ pins) few =
    omega (arith, stores_short (slot + 1) pins (in_eight-rest slot (Some p) pins few), few 0 p refl)

-- the pinned slots of a setting are among the eight
abbrev pub PinsInEight : Setting → Type 0
PinsInEight f = (slot : ℕ) (p : Pin) → pin_at f slot ≡ Some p → slot < 8

all_in_eight : (f : Setting) → PinsInEight f → AreInEight 0 f.pins
all_in_eight f few i p is = omega (arith, few i p is)

-- the code of held registers
begun_short : (f : Setting) (r : ℕ) (held : List Held) → length (each_held (begin_code f) r held) ≤ 2 * length held
begun_short f r [] = omega arith
begun_short f r (SecretZero ∷ held) = omega (arith, begun_short f (r + 1) held)
begun_short f r (Number z ∷ held) = omega (arith, begun_short f (r + 1) held)
begun_short f r (Scalar n ∷ held) = omega (arith, begun_short f (r + 1) held)

ended_short : (f : Setting) (r : ℕ) (held : List Held) → length (each_held (end_code f) r held) ≤ 2 * length held
ended_short f r [] = omega arith
ended_short f r (SecretZero ∷ held) = omega (arith, ended_short f (r + 1) held)
ended_short f r (Number z ∷ held) = omega (arith, ended_short f (r + 1) held)
ended_short f r (Scalar n ∷ held) = omega (arith, ended_short f (r + 1) held)

pub beginning_short : (f : Setting) → length (beginning f) ≤ 16 + 2 * length f.held
beginning_short f =
    omega (
      arith,
      length-append (each_slot load_code 0 (first_blocks f)) (held_beginning f),
      loads_short 0 (first_blocks f),
      begun_short f 19 f.held,
    )

ending_short : (f : Setting) → PinsInEight f → length (ending f) ≤ 9 + 2 * length f.held
ending_short f few =
    omega (
      arith,
      length-append (held_ending f) (each_slot pin_store 0 f.pins ++ Halt ∷ []),
      ended_short f 19 f.held,
      stores_short 0 f.pins (all_in_eight f few),
      length-append (each_slot pin_store 0 f.pins) (Halt ∷ []),
    )

-- the blocks that slots begin with are in their ranges
abbrev pub FirstFit : Setting → Type 0
FirstFit f = (slot : ℕ) (p : Pin) → get_or (first_blocks f) slot None ≡ Some p → (p.bank < 2) × (p.block ≤ 65536)

loads_fit : (banks : ℕ) → 2 ≤ banks → (slot : ℕ) (blocks : List (Option Pin)) → slot + length blocks ≤ 8
    → ((i : ℕ) (p : Pin) → get_or blocks i None ≡ Some p → (p.bank < 2) × (p.block ≤ 65536))
    → CodeFits banks (each_slot load_code slot blocks)
loads_fit banks some slot [] few fits = NoCode
loads_fit banks some slot (None ∷ blocks) few fits =
    loads_fit banks some (slot + 1) blocks (omega (arith, few)) (λ i p is. fits (suc i) p is)
loads_fit banks some slot (Some p ∷ blocks) few fits =
    let first = fits 0 p refl in
    Before (Li 0 (pos p.block)) (Ldb slot p.bank 0 ∷ each_slot load_code (slot + 1) blocks)
    (omega arith, small-word p.block (omega (arith, first.1)))
    (Before (Ldb slot p.bank 0) (each_slot load_code (slot + 1) blocks)
    (omega (arith, few), omega (arith, first.0, some), omega arith)
    (loads_fit banks some (slot + 1) blocks (omega (arith, few)) (λ i p is. fits (suc i) p is)))

stores_fit : (banks slot : ℕ) (pins : List (Option Pin)) → AreInEight slot pins
    → CodeFits banks (each_slot pin_store slot pins)
stores_fit banks slot [] few = NoCode
stores_fit banks slot (None ∷ pins) few = stores_fit banks (slot + 1) pins (in_eight-rest slot None pins few)
stores_fit banks slot (Some p ∷ pins) few =
    Before (Stb slot) (each_slot pin_store (slot + 1) pins) (omega (arith, few 0 p refl))
    (stores_fit banks (slot + 1) pins (in_eight-rest slot (Some p) pins few))

-- what registers hold is in its ranges: the registers of the machine, and the homes of scalars
pub record HeldFit (banks : ℕ) (f : Setting) (r : ℕ) (held : List Held) : Type 0 where
  pub few : r + length held ≤ 32
  pub words : (i : ℕ) (z : ℤ) → slice_get held i ≡ Some (Number z) → IsWord z
  pub homes : (i n : ℕ) → slice_get held i ≡ Some (Scalar n) → HomeFits banks (home_numbered f n)

held_rest : {banks : ℕ} {f : Setting} {r : ℕ} (h : Held) (held : List Held) → HeldFit banks f r (h ∷ held)
    → HeldFit banks f (r + 1) held
held_rest h held fit = record {
  few = omega (arith, fit.few);
  words = λ i z at. fit.words (suc i) z at;
  homes = λ i n at. fit.homes (suc i) n at;
}

begun_fits : (banks : ℕ) (f : Setting) (r : ℕ) (held : List Held) → HeldFit banks f r held
    → CodeFits banks (each_held (begin_code f) r held)
begun_fits banks f r [] fit = NoCode
begun_fits banks f r (SecretZero ∷ held) fit =
    let low : r < 32 = omega (arith, fit.few) in
    Before (Ldw r 1 0) (Alu Sub r r r ∷ each_held (begin_code f) (r + 1) held) (low, omega arith, omega arith)
    (Before (Alu Sub r r r) (each_held (begin_code f) (r + 1) held) (low, low, low)
    (begun_fits banks f (r + 1) held (held_rest SecretZero held fit)))
begun_fits banks f r (Number z ∷ held) fit =
    Before (Li r z) (each_held (begin_code f) (r + 1) held) (omega (arith, fit.few), fit.words 0 z refl)
    (begun_fits banks f (r + 1) held (held_rest (Number z) held fit))
begun_fits banks f r (Scalar n ∷ held) fit =
    let h = home_numbered f n in
    let home = fit.homes 0 n refl in
    let low : r < 32 = omega (arith, fit.few) in
    Before (Li 0 (pos h.word)) (Ldw r h.slot 0 ∷ each_held (begin_code f) (r + 1) held)
    (omega arith, small-word h.word (omega (arith, home.word)))
    (Before (Ldw r h.slot 0) (each_held (begin_code f) (r + 1) held) (low, home.slot, omega arith)
    (begun_fits banks f (r + 1) held (held_rest (Scalar n) held fit)))

ended_fits : (banks : ℕ) (f : Setting) (r : ℕ) (held : List Held) → HeldFit banks f r held
    → CodeFits banks (each_held (end_code f) r held)
ended_fits banks f r [] fit = NoCode
ended_fits banks f r (SecretZero ∷ held) fit = ended_fits banks f (r + 1) held (held_rest SecretZero held fit)
ended_fits banks f r (Number z ∷ held) fit = ended_fits banks f (r + 1) held (held_rest (Number z) held fit)
ended_fits banks f r (Scalar n ∷ held) fit =
    let h = home_numbered f n in
    let home = fit.homes 0 n refl in
    let low : r < 32 = omega (arith, fit.few) in
    Before (Li 0 (pos h.word)) (Stw r h.slot 0 ∷ each_held (end_code f) (r + 1) held)
    (omega arith, small-word h.word (omega (arith, home.word)))
    (Before (Stw r h.slot 0) (each_held (end_code f) (r + 1) held) (low, home.slot, omega arith)
    (ended_fits banks f (r + 1) held (held_rest (Scalar n) held fit)))

ending_fits : (banks : ℕ) (f : Setting) → PinsInEight f → HeldFit banks f 19 f.held → CodeFits banks (ending f)
ending_fits banks f few held =
    code-both banks (held_ending f) (each_slot pin_store 0 f.pins ++ Halt ∷ []) (ended_fits banks f 19 f.held held)
    (code-both banks (each_slot pin_store 0 f.pins) (Halt ∷ []) (stores_fit banks 0 f.pins (all_in_eight f few))
    (Before Halt [] tt NoCode))

-- the last of notes that rise is before their end
rise_ends : (f : Setting) (low high : ℕ) (notes : List Note) → NotesRise f low high notes → next_place notes ≤ high
rise_ends f low high [] rise = omega arith
rise_ends f low high (n ∷ []) rise = let at = rise.0 in omega (arith, at.1)
rise_ends f low high (n ∷ m ∷ notes) rise = rise_ends f (n.pc + 1) high (m ∷ notes) rise.2

module _ (f : Setting) (body : Block) (few : f.profile.taken ≤ 32) (pins : PinsInEight f)
    (registers : length f.held ≤ 13)
    (light : block_weight (context_of f.decls) label.Public body ≤ max_weight) where
  abbrev inner : Setting
  inner = at_start f

  abbrev whole : List Instr
  whole = program_code f padding_of body

  abbrev notes : List Note
  notes = program_notes f padding_of body

  whole_size : length whole ≡ length (beginning f) + (length (block_code inner padding_of body) + length (ending f))
  whole_size =
      length-append (beginning f) (block_code inner padding_of body ++ ending f)
      ∙ ap (λ (n : ℕ). length (beginning f) + n) (length-append (block_code inner padding_of body) (ending f))

  -- it ends with an instruction at least
  ending_some : 1 ≤ length (ending f)
  ending_some =
      omega (
        arith,
        length-append (held_ending f) (each_slot pin_store 0 f.pins ++ Halt ∷ []),
        length-append (each_slot pin_store 0 f.pins) (Halt ∷ []),
      )

  -- a program has at most 120 instructions for each unit of its weight, and few more
  pub program-short : length whole ≤ 120 * block_weight (context_of f.decls) label.Public body + (64 + 4 * length f.held)
  program-short = omega (arith, whole_size, beginning_short f, ending_short f pins, row-public inner few body)

  -- the code of a program isn't too long
  pub program-size : Within 1 most_instructions (length whole)
  program-size =
      let most : 120 * block_weight (context_of f.decls) label.Public body ≤ 983040 = omega arith in
      let short = program-short in
      let size = whole_size in
      let some = ending_some in
      (omega arith, omega arith)

  -- each of its instructions is in its range
  pub program-fits : (banks : ℕ) → 2 ≤ banks → HomesFit banks f → FirstFit f → HeldFit banks f 19 f.held
      → TypedBlock (context_of f.decls) label.Public body → BlockHasWords body → LowBlock body
      → All (InstrFits banks) whole
  program-fits banks some homes first held typed words low =
      code-all banks whole
      (code-both banks (beginning f) (block_code inner padding_of body ++ ending f)
      (code-both banks (each_slot load_code 0 (first_blocks f)) (held_beginning f)
      (loads_fit banks some 0 (first_blocks f) (omega arith) first) (begun_fits banks f 19 f.held held))
      (code-both banks (block_code inner padding_of body) (ending f)
      (rows-fits banks inner few (homes_fit-ranged banks f inner.ranges homes) body typed words low light) (ending_fits banks f pins held)))

  -- its notes
  notes_rise : NotesRise f (length (beginning f) + 1)
      (length (beginning f) + length (block_code inner padding_of body) + 1) notes
  notes_rise =
      let part = block-noted padding_of begins-guarded inner body in
      let p = length (beginning f) in
      rise-ranged f inner.ranges (p + 1) (p + length (block_code inner padding_of body) + 1) notes (part.rises p)

  -- each of its notes is in its range
  pub notes-fit : (banks : ℕ) → 2 ≤ banks → PinsLow f → EachAfter (NoteFits banks) [] notes
  notes-fit banks some low =
      let size = program-size in
      let most = size.1 in
      rise-fits f banks some low (length (beginning f) + 1)
      (length (beginning f) + length (block_code inner padding_of body) + 1) [] notes (omega arith)
      (omega (arith, whole_size, ending_some)) notes_rise

  -- its notes aren't too many
  pub notes-few : length notes ≤ most_notes
  notes-few = omega (arith, row-count inner body (length (beginning f)))

  -- there is no note past the end of the code
  pub notes-inside : next_place notes ≤ length whole
  notes-inside =
      omega (
        arith,
        whole_size,
        ending_some,
        rise_ends f (length (beginning f) + 1)
            (length (beginning f) + length (block_code inner padding_of body) + 1) notes notes_rise,
      )
