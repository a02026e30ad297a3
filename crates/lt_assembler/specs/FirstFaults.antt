-- The first error of a text, as people read it. (This project's profile.)
use Rattle.std.specs.Prelude.{◌≡◌, ℕ, ◌+◌, ◌≤◌, true, List, [], ◌∷◌, ◌++◌, length, All, bytes_eq, Some, None, is_some}
use Rattle.std.specs.Map.{lookup}
use Rattle.lt_isa.specs.declared.instructions.Instr.{Instr}
use Rattle.lt_isa.specs.Limits.{fewest_banks}
use Rattle.lt_assembler.specs.declared.faults.Fault.{Fault}
use Rattle.lt_assembler.specs.declared.errors.AsmError.{AsmError}
use Rattle.lt_assembler.specs.declared.errors.AsmError.TheVariants.{BadLine, UnknownName}
use Rattle.lt_assembler.specs.Words.{Word}
use Rattle.lt_assembler.specs.Lines.{lines}
use Rattle.lt_assembler.specs.Faults.{at_line}
use Rattle.lt_assembler.specs.Items.{ToLabel, Item, AnInstruction}
use Rattle.lt_assembler.specs.Spelled.{labels_in}
use Rattle.lt_assembler.specs.Earlier.{Earlier, given}
use Rattle.lt_assembler.specs.LineRules.{Says, HasFault}

-- From some items on, lines without an error yield one item each. They lead to these items, and these lines are left.
pub data Leads : List Item → List (List ℕ) → List Item → List (List ℕ) → Type 0 where
  Here : (items : List Item) → (rest : List (List ℕ)) → Leads items rest items rest
  On : (before : List Item) → (line : List ℕ) → (rest : List (List ℕ)) → (item : Item)
      → (items : List Item) → (after : List (List ℕ)) → Says (given before) line rest item
      → Leads (before ++ item ∷ []) rest items after → Leads before (line ∷ rest) items after

-- Line n has an error, and the lines before it have none.
pub record IsFirstFaulty (text : List ℕ) (n : ℕ) (fault : Fault) : Type 0 where
  pub items : List Item
  pub line : List ℕ
  pub after : List (List ℕ)
  pub before : Leads [] (lines text) items (line ∷ after)
  pub number : n ≡ length items + 1
  pub faulty : HasFault (given items) line after fault

-- no line of a text has an error
abbrev pub AreSaid : List ℕ → List Item → Type 0
AreSaid text items = Leads [] (lines text) items []

-- there are a first line, two banks and an instruction
pub record IsComplete (e : Earlier) : Type 0 where
  pub profile : 1 ≤ length e.profile
  pub banks : fewest_banks ≤ length e.banks
  pub code : 1 ≤ e.place

-- if an item's target is a label, some line defines the label
abbrev pub LeadsToKnown : List (Word × ℕ) → Item → Type 0
LeadsToKnown labels (AnInstruction instr (Some (ToLabel name))) = is_some (lookup (bytes_eq name) labels) ≡ true
LeadsToKnown labels item = Unit {0}

-- The item of line n is the first whose target is a label that no line defines.
-- Rule: assembly/unknown.
pub record IsUnknown (items : List Item) (n : ℕ) : Type 0 where
  pub before : List Item
  pub instr : Instr
  pub name : Word
  pub after : List Item
  pub whole : items ≡ before ++ AnInstruction instr (Some (ToLabel name)) ∷ after
  pub number : n ≡ length before + 1
  pub nowhere : lookup (bytes_eq name) (labels_in items) ≡ None
  pub first : All (LeadsToKnown (labels_in items)) before

-- The first error of a text is that of its first line with an error. If no line has one, it is that the text ends too
-- early, with the number of the line after the last; and otherwise it is an unknown label.
pub data IsFirstTextFault (text : List ℕ) : AsmError → Type 0 where
  InLine : (n : ℕ) → (fault : Fault) → IsFirstFaulty text n fault → IsFirstTextFault text (at_line n fault)
  TooShort : (items : List Item) → AreSaid text items → ¬ IsComplete (given items)
      → IsFirstTextFault text (BadLine (length (lines text) + 1))
  Unknown : (items : List Item) → (n : ℕ) → AreSaid text items → IsComplete (given items) → IsUnknown items n
      → IsFirstTextFault text (UnknownName n)
