-- The cells of the scratchpad as slots.
use Rattle.std.proofs.Common.{◌≡◌, ℕ, ◌<◌, Bool, true, false, cond, ℤ, List, ◌++◌, length, map, get_or, set, take, drop, refl, sym, ap, ◌∙◌}
use Rattle.std.proofs.lemmas.List.{get_or-map, map-set}
use Rattle.std.proofs.Math.Seq.{take-append_seam}
use Rattle.lt_isa.specs.Prelude.{Slot, Unbound, Bound}
use Rattle.processor.specs.declared.scratchpad.Cell.{Cell}
use Rattle.processor.specs.Prelude.{cell_slot, slot_with_word, Pad}

-- a cell with another word represents the slot with that word
pub with_word-cell : (bound : Bool) (bank block : ℕ) (words : List ℤ) (i : ℕ) (word : ℤ)
    → cond bound (Bound bank block (set words i word)) Unbound
    ≡ slot_with_word i word (cond bound (Bound bank block words) Unbound)
with_word-cell true bank block words i word = refl
with_word-cell false bank block words i word = refl

-- the scratchpad of some cells
abbrev pub pad_of : ℕ → List Cell → Pad
pad_of words cells = record { words = words; slots = map cell_slot cells }

-- the scratchpad with another cell
pub pad_of-set : (words : ℕ) (cells : List Cell) (pad : Pad) (k : ℕ) (cell : Cell) (found : Slot)
    → pad_of words cells ≡ pad → cell_slot cell ≡ found
    → pad_of words (set cells k cell) ≡ record pad { slots = set pad.slots k found }
pad_of-set words cells pad k cell found are is =
    let put : Slot → Pad → Pad = λ slot p. record p { slots = set p.slots k slot } in
    ap (λ slots. let p : Pad = record { words = words; slots = slots } in p) (map-set cell_slot cells k cell)
    ∙ ap (put (cell_slot cell)) are
    ∙ ap (λ slot. put slot pad) is

-- the slot that a cell represents
pub slots-at : (cells : List Cell) (slots : List Slot) (k : ℕ) (cell : Cell)
    → map cell_slot cells ≡ slots → k < length cells → cell ≡ get_or cells k cell → cell_slot cell
    ≡ get_or slots k Unbound
slots-at cells slots k cell are within read =
    ap cell_slot read ∙ sym (get_or-map cell_slot cells k cell Unbound within) ∙ ap (λ l. get_or l k Unbound) are

-- words that were written over as many others
pub refilled : (n : ℕ) (new old : List ℤ) → length new ≡ n → take n (new ++ drop (length new) old) ≡ new
refilled n new old size =
    ap (λ k. take k (new ++ drop (length new) old)) (sym size) ∙ take-append_seam new (drop (length new) old)
