-- The steps that read or write one word of an array that has several blocks, each in a slot of its own. Every block is
-- read, and every block is written, so the steps are the same for each word. (This project's own choice.)
use Rattle.std.specs.Prelude.{ℕ, zero, suc, ◌-◌, ◌*◌, Bool, true, false, not, pos, List, [], ◌∷◌, ◌++◌}
use Rattle.gr_word.specs.declared.operations.Op.TheVariants.{Sub, And, Xor, Shr}
use Rattle.lt_isa.specs.declared.profiles.Profile.{Profile}
use Rattle.lt_isa.specs.declared.instructions.Instr.{Instr}
use Rattle.lt_isa.specs.Costs.{operation_cost}
use Rattle.stretches.specs.Shows.{Show, Gap}
use Rattle.word_selection.specs.declared.effects.Effect.{Effect}
use Rattle.word_selection.specs.declared.effects.Effect.TheVariants.{Stores, Keeps}
use Rattle.word_selection.specs.SlotSteps.{code_of, SlotStep, Constant, Compute, Combine, Read, Write}

-- Register `mask` becomes all ones if the number in register 0 is at least the limit, and 0 otherwise. The limit less 1 is
-- subtracted from and is the number of places that the difference is shifted: its low six bits are enough to shift all but
-- the sign out, if a block has at least eight words. Register 2 is overwritten.
abbrev pub mask_steps : (limit mask : ℕ) → List SlotStep
mask_steps limit mask = Constant 2 (pos (limit - 1)) ∷ Compute Sub mask 2 0 ∷ Compute Shr mask mask 2 ∷ []

-- Register 1 has a word, and register 0 a number. Register `to` becomes the word of this slot that register 0 names if
-- the number is at least the limit, and the word in register 1 otherwise.
abbrev pub choice_steps : (limit slot to : ℕ) → List SlotStep
choice_steps limit slot to =
    mask_steps limit 3
    ++ (Read 2 slot 0 ∷ Compute Xor 2 2 1 ∷ Compute And 2 2 3 ∷ Compute Xor to 1 2 ∷ [])

-- where a word is left: in register 0 if it is of the last slot, and otherwise in register 1
abbrev pub left_register : List ℕ → ℕ
left_register [] = 0
left_register (slot ∷ slots) = 1

-- the same for each of several slots, which have the blocks from number i on
abbrev pub choices_steps : (size i : ℕ) → List ℕ → List SlotStep
choices_steps size i [] = []
choices_steps size i (slot ∷ slots) =
    choice_steps (i * size) slot (left_register slots) ++ choices_steps size (suc i) slots

-- Register 0 has the number of a word in an array whose blocks are in these slots in order, and becomes that word.
-- Registers 1 to 3 are overwritten.
abbrev pub read_steps : (size : ℕ) → List ℕ → List SlotStep
read_steps size [] = []
read_steps size (slot ∷ slots) = Read (left_register slots) slot 0 ∷ choices_steps size 1 slots

-- the code that reads a word, in register `to`
abbrev pub selected_read : (size : ℕ) → List ℕ → (to : ℕ) → List Instr
selected_read size slots to = code_of to (read_steps size slots)

-- The register of the word that is written: the new word if writing has an effect, and otherwise the old one.
abbrev pub written_from : Effect → ℕ
written_from Stores = 2
written_from Keeps = 1

-- two registers that have masks alternately
abbrev pub mask_register : Bool → ℕ
mask_register false = 3
mask_register true = 4

-- Register 0 has the number of a word, and a register of the machine has a value. The old word is in register 1, and
-- this step in register 2 the bits in which it differs from the value, as far as a mask has ones.
abbrev pub difference_steps : (value slot mask : ℕ) → List SlotStep
difference_steps value slot mask = Read 1 slot 0 ∷ Combine Xor 2 1 value ∷ Compute And 2 2 mask ∷ []

-- The first block: its word becomes the value unless the mask has ones.
abbrev pub first_steps : Effect → (size value slot : ℕ) → List SlotStep
first_steps effect size value slot =
    mask_steps (1 * size) (mask_register false)
    ++ (difference_steps value slot (mask_register false)
    ++ (Combine Xor 2 2 value ∷ Write (written_from effect) slot 0 ∷ []))

-- Another block: its word becomes the value if the mask has ones.
abbrev pub exchange_steps : Effect → (value slot mask : ℕ) → List SlotStep
exchange_steps effect value slot mask =
    difference_steps value slot mask ++ (Compute Xor 2 2 1 ∷ Write (written_from effect) slot 0 ∷ [])

-- Register `mask_register turn` has all ones if the number is at least that of the first word of block i. If there is a
-- block after it, the other register gets the mask of that block, and the first one has ones only if the word is in block i.
abbrev pub next_mask_steps : (size i : ℕ) → Bool → List ℕ → List SlotStep
next_mask_steps size i turn [] = []
next_mask_steps size i turn (slot ∷ slots) =
    mask_steps (suc i * size) (mask_register (not turn))
    ++ (Compute Xor (mask_register turn) (mask_register turn) (mask_register (not turn)) ∷ [])

-- the steps for slots that have the blocks from number i on, which isn't 0
abbrev pub exchanges_steps : Effect → (size value i : ℕ) → Bool → List ℕ → List SlotStep
exchanges_steps effect size value i turn [] = []
exchanges_steps effect size value i turn (slot ∷ slots) =
    next_mask_steps size i turn slots
    ++ (exchange_steps effect value slot (mask_register turn)
    ++ exchanges_steps effect size value (suc i) (not turn) slots)

-- Register 0 has the number of a word in an array whose blocks are in these slots in order. The word becomes the value
-- that a register of the machine has, or stays. Registers 1 to 4 are overwritten.
abbrev pub write_steps : Effect → (size value : ℕ) → List ℕ → List SlotStep
write_steps effect size value [] = []
write_steps effect size value (slot ∷ slots) =
    first_steps effect size value slot ++ exchanges_steps effect size value 1 false slots

-- the code that writes a word, with its number in register `to`
abbrev pub selected_write : Effect → (size value : ℕ) → List ℕ → (to : ℕ) → List Instr
selected_write effect size value slots to = code_of to (write_steps effect size value slots)

-- what the code shows for a number of blocks: the cycles of each instruction
abbrev pub mask_shows : Profile → List Show
mask_shows profile = Gap 1 ∷ Gap (operation_cost profile Sub) ∷ Gap (operation_cost profile Shr) ∷ []

abbrev pub choice_shows : Profile → List Show
choice_shows profile =
    mask_shows profile
    ++ (Gap profile.word
    ∷ Gap (operation_cost profile Xor)
    ∷ Gap (operation_cost profile And)
    ∷ Gap (operation_cost profile Xor)
    ∷ [])

abbrev pub choices_shows : Profile → ℕ → List Show
choices_shows profile zero = []
choices_shows profile (suc count) = choice_shows profile ++ choices_shows profile count

abbrev pub read_shows : Profile → ℕ → List Show
read_shows profile zero = []
read_shows profile (suc more) = Gap profile.word ∷ choices_shows profile more

abbrev pub exchange_shows : Profile → List Show
exchange_shows profile =
    Gap profile.word
    ∷ Gap (operation_cost profile Xor)
    ∷ Gap (operation_cost profile And)
    ∷ Gap (operation_cost profile Xor)
    ∷ Gap profile.word
    ∷ []

abbrev pub exchanges_shows : Profile → ℕ → List Show
exchanges_shows profile zero = []
exchanges_shows profile (suc zero) = exchange_shows profile
exchanges_shows profile (suc (suc more)) =
    mask_shows profile
    ++ (Gap (operation_cost profile Xor) ∷ (exchange_shows profile ++ exchanges_shows profile (suc more)))

abbrev pub write_shows : Profile → ℕ → List Show
write_shows profile zero = []
write_shows profile (suc more) = mask_shows profile ++ (exchange_shows profile ++ exchanges_shows profile more)
