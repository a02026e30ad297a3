-- The instructions of the code are in the machine's ranges, and the code's length depends only on the number of blocks.
use Rattle.std.proofs.Common.{◌≡◌, ℕ, suc, ◌+◌, ◌-◌, ◌*◌, ◌^◌, ◌<◌, ◌≤◌, Bool, false, not, pos, List, [], ◌∷◌, ◌++◌, length, subst, arith}
use Rattle.std.specs.Prelude.{All, slice_get, Some}
use Rattle.std.specs.List.{AllByRecursion}
use Rattle.std.proofs.lemmas.List.Elements.{All-cons, All-nil}
use Rattle.std.proofs.Math.Nat.{mul-le-mul_right}
use Rattle.gr_word.specs.Prelude.{IsWord}
use Rattle.lt_isa.specs.Prelude.{InstrFits}
use Rattle.word_selection.specs.declared.effects.Effect.{Effect}
use Rattle.word_selection.specs.Prelude.{SlotStep, Constant, Compute, Combine, Read, Write, IsOutside, StepFits, OperandFits, instruction_of, code_of, choices_steps, read_steps, selected_read, mask_register, next_mask_steps, exchange_steps, exchanges_steps, write_steps, selected_write}
use Rattle.strength_reduction.proofs.Registers.{numbered-low}
use Rattle.word_selection.proofs.ReadLaws.{read-fits}
use Rattle.word_selection.proofs.WriteLaws.{write-fits}

-- ---- constants are words, and the value's register is one of the machine's

abbrev Words : List SlotStep → Type 0
Words steps = AllByRecursion OperandFits steps

words-append : (xs ys : List SlotStep) → Words xs → Words ys → Words (xs ++ ys)
words-append [] ys first rest = rest
words-append (x ∷ xs) ys first rest = (first.0, words-append xs ys first.1 rest)

limit-word : (limit : ℕ) → limit < 2 ^ 63 → IsWord (pos (limit - 1))
limit-word limit below = record { sfits = omega arith }

module _ (size bound : ℕ) (small : bound < 2 ^ 63) where
  choices-words : (slots : List ℕ) (i : ℕ) → (i + length slots) * size ≤ bound → Words (choices_steps size i slots)
  choices-words [] i le = tt
  choices-words (slot ∷ slots) i le =
      let limit : i * size ≤ bound =
      omega (arith, le, mul-le-mul_right {m = i} {n = i + length (slot ∷ slots)} size (omega arith)) in
      let same : i + length (slot ∷ slots) ≡ suc i + length slots = omega arith in (
        limit-word (i * size) (omega (arith, small)),
        (
          tt,
          (
            tt,
            (
              tt,
              (tt, (tt, (tt, choices-words slots (suc i) (subst (λ m. m * size ≤ bound) same le)))),
            ),
          ),
        ),
      )

  read-words : (slots : List ℕ) → length slots * size ≤ bound → Words (read_steps size slots)
  read-words [] le = tt
  read-words (slot ∷ slots) le =
      let same : length (slot ∷ slots) ≡ 1 + length slots = omega arith in
      (tt, choices-words slots 1 (subst (λ m. m * size ≤ bound) same le))

  next-words : (i : ℕ) (turn : Bool) (slots : List ℕ) → (suc i + length slots) * size ≤ bound
      → Words (next_mask_steps size i turn slots)
  next-words i turn [] le = tt
  next-words i turn (slot ∷ slots) le =
      let limit : suc i * size ≤ bound =
      omega (arith, le, mul-le-mul_right {m = suc i} {n = suc i + length (slot ∷ slots)} size (omega arith)) in
      (limit-word (suc i * size) (omega (arith, small)), (tt, (tt, (tt, tt))))

  exchanges-words : (effect : Effect) (value : ℕ) (low : value < 32) (slots : List ℕ) (i : ℕ) (turn : Bool)
      → (i + length slots) * size ≤ bound → Words (exchanges_steps effect size value i turn slots)
  exchanges-words effect value low [] i turn le = tt
  exchanges-words effect value low (slot ∷ slots) i turn le =
      let same : i + length (slot ∷ slots) ≡ suc i + length slots = omega arith in
      let more : (suc i + length slots) * size ≤ bound = subst (λ m. m * size ≤ bound) same le in
      words-append (next_mask_steps size i turn slots)
      (exchange_steps effect value slot (mask_register turn)
      ++ exchanges_steps effect size value (suc i) (not turn) slots)
      (next-words i turn slots more)
      (tt, (low, (tt, (tt, (tt, exchanges-words effect value low slots (suc i) (not turn) more)))))

  write-words : (effect : Effect) (value : ℕ) (low : value < 32) (slots : List ℕ) → length slots * size ≤ bound
      → Words (write_steps effect size value slots)
  write-words effect value low [] le = tt
  write-words effect value low (slot ∷ slots) le =
      let same : length (slot ∷ slots) ≡ 1 + length slots = omega arith in
      let more : (1 + length slots) * size ≤ bound = subst (λ m. m * size ≤ bound) same le in
      let limit : 1 * size ≤ bound =
      omega (arith, more, mul-le-mul_right {m = 1} {n = 1 + length slots} size (omega arith)) in (
        limit-word (1 * size) (omega (arith, small)),
        (tt, (tt, (tt, (low, (tt, (low, (tt, exchanges-words effect value low slots 1 false more))))))),
      )

-- ---- instructions are in their ranges

step-in_range : (banks base most : ℕ) (step : SlotStep) → base + most < 32
    → StepFits base most (λ k. k < 8) step → OperandFits step → InstrFits banks (instruction_of base step)
step-in_range banks base most (Constant to value) room fits operand = (numbered-low base most to fits room, operand)
step-in_range banks base most (Compute op to left right) room fits operand = (
  numbered-low base most to fits.0 room,
  numbered-low base most left fits.1 room,
  numbered-low base most right fits.2 room,
)
step-in_range banks base most (Combine op to left outside) room fits operand =
    (numbered-low base most to fits.0 room, numbered-low base most left fits.1 room, operand)
step-in_range banks base most (Read to slot at) room fits operand =
    (numbered-low base most to fits.0 room, fits.2, numbered-low base most at fits.1 room)
step-in_range banks base most (Write from slot at) room fits operand =
    (numbered-low base most from fits.0 room, fits.2, numbered-low base most at fits.1 room)

code-in_range : (banks base most : ℕ) (steps : List SlotStep) → base + most < 32
    → AllByRecursion (StepFits base most (λ k. k < 8)) steps → Words steps
    → All (InstrFits banks) (code_of base steps)
code-in_range banks base most [] room fits words = All-nil (InstrFits banks)
code-in_range banks base most (step ∷ steps) room fits words =
    All-cons (InstrFits banks) (instruction_of base step) (code_of base steps)
    (step-in_range banks base most step room fits.0 words.0)
    (code-in_range banks base most steps room fits.1 words.1)

pub read-in_range : (banks size : ℕ) (slots : List ℕ) (to : ℕ) → to + 3 < 32 → length slots * size < 2 ^ 63
    → ((i k : ℕ) → slice_get slots i ≡ Some k → k < 8)
    → All (InstrFits banks) (selected_read size slots to)
read-in_range banks size slots to room small few =
    code-in_range banks to 3 (read_steps size slots) room
    (read-fits to (λ k. k < 8) size slots (λ k one. few one.index k one.is))
    (read-words size (length slots * size) small slots (omega arith))

pub write-in_range : (banks size value : ℕ) (effect : Effect) (slots : List ℕ) (to : ℕ) → to + 4 < 32 → value < 32
    → IsOutside to 4 value → length slots * size < 2 ^ 63
    → ((i k : ℕ) → slice_get slots i ≡ Some k → k < 8)
    → All (InstrFits banks) (selected_write effect size value slots to)
write-in_range banks size value effect slots to room low apart small few =
    code-in_range banks to 4 (write_steps effect size value slots) room
    (write-fits to value apart (λ k. k < 8) effect size slots (λ k one. few one.index k one.is))
    (write-words size (length slots * size) small effect value low slots (omega arith))

-- ---- lengths
