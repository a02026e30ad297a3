-- The object that an assembly text encodes (this project's profile): each line encodes an item, and the items encode
-- the object.
use Rattle.std.specs.Prelude.{◌≡◌, ℕ, ◌+◌, ◌≤◌, List, [], ◌∷◌, ◌++◌, map, Option, Some, None, option_map, IsTrue, bytes_eq}
use Rattle.std.specs.Map.{lookup}
use Rattle.gr_base.specs.Lists.{Within, EachAfter}
use Rattle.lt_isa.specs.declared.profiles.Profile.{Profile}
use Rattle.lt_isa.specs.declared.profiles.BankSpec.{BankSpec}
use Rattle.lt_isa.specs.declared.symbols.Symbol.{Symbol}
use Rattle.lt_isa.specs.declared.symbols.Note.{Note}
use Rattle.lt_isa.specs.declared.instructions.Instr.{Instr}
use Rattle.lt_isa.specs.Object.{Parts}
use Rattle.lt_isa.specs.Ranges.{IsInRange}
use Rattle.lt_assembler.specs.Words.{Word}
use Rattle.lt_assembler.specs.Lines.{lines, words, is_ascii_line}
use Rattle.lt_assembler.specs.Instructions.{offset_to}
use Rattle.lt_isa.specs.InstructionTable.{with_offset}
use Rattle.lt_assembler.specs.Items.{Target, ToPlace, ToLabel, Item, Nothing, AnObject, ABank, ASymbol, ALabel, ANote, AnInstruction, WordsSpell}

-- each line is ASCII, and its words encode an item
abbrev pub LinesSpell : List (List ℕ) → List Item → Type 0
LinesSpell [] [] = Unit {0}
LinesSpell [] (item ∷ items) = ⊥
LinesSpell (line ∷ lines) [] = ⊥
LinesSpell (line ∷ lines) (item ∷ items) =
    IsTrue (is_ascii_line line) × WordsSpell (words line) item × LinesSpell lines items

-- Lines are in stages: before the first line (0), after it (1), in the banks (2), in the symbols (3), in the code (4).
-- An empty line is allowed anywhere.
abbrev pub Stands : ℕ → Item → Type 0
Stands stage Nothing = Unit {0}
Stands stage (AnObject profile) = stage ≡ 0
Stands stage (ABank bank) = Within 1 2 stage
Stands stage (ASymbol symbol) = Within 2 3 stage
Stands stage item = 2 ≤ stage

-- the stage after an item
abbrev pub stage_behind : ℕ → Item → ℕ
stage_behind stage Nothing = stage
stage_behind stage (AnObject profile) = 1
stage_behind stage (ABank bank) = 2
stage_behind stage (ASymbol symbol) = 3
stage_behind stage item = 4

abbrev pub StagesInOrder : ℕ → List Item → Type 0
StagesInOrder stage [] = Unit {0}
StagesInOrder stage (item ∷ items) = Stands stage item × StagesInOrder (stage_behind stage item) items

-- the place of the next instruction after an item
abbrev pub place_after : ℕ → Item → ℕ
place_after place (AnInstruction instr target) = place + 1
place_after place item = place

-- What the items yield in sequence, each at the place of the next instruction.
abbrev pub gathered : {X : Type 0} → (ℕ → Item → List X) → ℕ → List Item → List X
gathered give place [] = []
gathered give place (item ∷ items) = give place item ++ gathered give (place_after place item) items

abbrev pub profile_in : ℕ → Item → List Profile
profile_in place (AnObject profile) = profile ∷ []
profile_in place item = []

abbrev pub bank_in : ℕ → Item → List BankSpec
bank_in place (ABank bank) = bank ∷ []
bank_in place item = []

abbrev pub symbol_in : ℕ → Item → List Symbol
symbol_in place (ASymbol symbol) = symbol ∷ []
symbol_in place item = []

-- a note belongs to the next instruction
abbrev pub note_in : ℕ → Item → List Note
note_in place (ANote mask claims) = record { pc = place; secrets = mask; slots = claims } ∷ []
note_in place item = []

-- a label names the place of the next instruction, or the end of the code
abbrev pub label_in : ℕ → Item → List (Word × ℕ)
label_in place (ALabel name) = (name, place) ∷ []
label_in place item = []

-- the instruction with its target, if the target has a place
abbrev pub leading : List (Word × ℕ) → ℕ → Instr → Option Target → Option Instr
leading labels place instr None = Some instr
leading labels place instr (Some (ToPlace to)) = Some (with_offset (offset_to to place) instr)
leading labels place instr (Some (ToLabel name)) =
    option_map (λ to. with_offset (offset_to to place) instr) (lookup (bytes_eq name) labels)

abbrev pub instruction_in : List (Word × ℕ) → ℕ → Item → List (Option Instr)
instruction_in labels place (AnInstruction instr target) = leading labels place instr target ∷ []
instruction_in labels place item = []

abbrev pub labels_in : List Item → List (Word × ℕ)
labels_in items = gathered label_in 0 items

-- each label is defined once
abbrev pub AreOnce : List (Word × ℕ) → Type 0
AreOnce labels = EachAfter (λ before label. lookup (bytes_eq label.0) before ≡ None) [] labels

-- the items encode an object: they are in order and yield its parts
pub record ItemsSpell (items : List Item) (o : Parts) : Type 0 where
  pub ordered : StagesInOrder 0 items
  pub profile : gathered profile_in 0 items ≡ o.profile ∷ []
  pub banks : gathered bank_in 0 items ≡ o.banks
  pub symbols : gathered symbol_in 0 items ≡ o.symbols
  pub notes : gathered note_in 0 items ≡ o.notes
  pub labels : AreOnce (labels_in items)
  pub code : gathered (instruction_in (labels_in items)) 0 items ≡ map Some o.code

-- The text encodes an object whose fields are in range. So each note has an instruction after it and is the only one
-- there, and each number is in the range of its field.
pub record SpellsInText (text : List ℕ) (o : Parts) : Type 0 where
  pub items : List Item
  pub said : LinesSpell (lines text) items
  pub object : ItemsSpell items o
  pub in_range : IsInRange o
