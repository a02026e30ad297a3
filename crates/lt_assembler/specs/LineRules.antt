-- The item of a line, or the line's error, after the items of the lines before it. The form comes first, then the
-- ranges of numbers, repeated names, and limits. (This project's profile.)
use Rattle.std.specs.Prelude.{◌≡◌, ◌≢◌, ℕ, ◌+◌, ◌<◌, ◌≤◌, List, length, All, IsTrue, bytes_eq, None}
use Rattle.std.specs.Map.{lookup}
use Rattle.gr_word.specs.Names.{is_name}
use Rattle.lt_isa.specs.Limits.{most_banks, most_symbols, most_symbol_words, most_notes, most_instructions}
use Rattle.lt_isa.specs.SymbolPlaces.{LiesBehind}
use Rattle.lt_isa.specs.Ranges.{ProfileFits, BankFits, NoteFits, InstrFits, total_length}
use Rattle.lt_assembler.specs.declared.faults.Fault.{Fault}
use Rattle.lt_assembler.specs.Lines.{words, is_ascii_line}
use Rattle.lt_assembler.specs.Items.{Item, Nothing, AnObject, ABank, ASymbol, ALabel, ANote, AnInstruction, WordsSpell}
use Rattle.lt_assembler.specs.Earlier.{Earlier, block_words_by}
use Rattle.lt_assembler.specs.Forms.{HasForm}
use Rattle.lt_assembler.specs.declared.faults.Fault.TheVariants as fault

-- A line is ASCII, and its words have a form that is allowed there.
-- Rule: assembly/line.
pub record IsOfForm (e : Earlier) (line : List ℕ) (after : List (List ℕ)) : Type 0 where
  pub ascii : IsTrue (is_ascii_line line)
  pub form : HasForm e after (words line)

-- The numbers of an item are in the ranges of their fields, and the place of a symbol is allowed.
-- Rule: assembly/number.
abbrev pub FitsRanges : Earlier → Item → Type 0
FitsRanges e Nothing = Unit {0}
FitsRanges e (AnObject profile) = ProfileFits profile
FitsRanges e (ABank bank) = BankFits e.banks bank
FitsRanges e (ASymbol symbol) =
    IsTrue (is_name symbol.name) × LiesBehind (block_words_by e.profile) e.banks e.symbols symbol
FitsRanges e (ALabel name) = Unit {0}
FitsRanges e (ANote mask claims) =
    NoteFits (length e.banks) e.notes (record { pc = e.place; secrets = mask; slots = claims })
FitsRanges e (AnInstruction instr target) = InstrFits (length e.banks) instr

-- no symbol has the symbol's name, and no label has the label's name
-- Rule: assembly/twice.
abbrev pub HasNewName : Earlier → Item → Type 0
HasNewName e (ASymbol symbol) = All (λ other. other.name ≢ symbol.name) e.symbols
HasNewName e (ALabel name) = lookup (bytes_eq name) e.labels ≡ None
HasNewName e item = Unit {0}

-- the item doesn't exceed a limit, nor do the words of all symbols
-- Rule: assembly/limit.
abbrev pub HasRoom : Earlier → Item → Type 0
HasRoom e (ABank bank) = length e.banks < most_banks
HasRoom e (ASymbol symbol) =
    (length e.symbols < most_symbols) × (total_length e.symbols + symbol.length ≤ most_symbol_words)
HasRoom e (ANote mask claims) = length e.notes < most_notes
HasRoom e (AnInstruction instr target) = e.place < most_instructions
HasRoom e item = Unit {0}

-- A line has a form and encodes an item, whose numbers are in range.
pub record SpellsInRange (e : Earlier) (line : List ℕ) (after : List (List ℕ)) (item : Item) : Type 0 where
  pub form : IsOfForm e line after
  pub spells : WordsSpell (words line) item
  pub fits : FitsRanges e item

-- A line without an error yields an item.
pub record Says (e : Earlier) (line : List ℕ) (after : List (List ℕ)) (item : Item) : Type 0 where
  pub in_range : SpellsInRange e line after item
  pub new : HasNewName e item
  pub room : HasRoom e item

-- The error of a line: it has no form that is allowed there; or it has one, but encodes nothing in range; or it encodes
-- an item in range whose name is repeated; or it encodes one with a new name that exceeds a limit.
pub data HasFault (e : Earlier) (line : List ℕ) (after : List (List ℕ)) : Fault → Type 0 where
  OtherForm : ¬ IsOfForm e line after → HasFault e line after fault.WrongForm
  BadNumber : IsOfForm e line after
      → ((item : Item) → ¬ SpellsInRange e line after item) → HasFault e line after fault.Number
  TwiceNamed : (item : Item) → SpellsInRange e line after item → ¬ HasNewName e item
      → HasFault e line after fault.RepeatedName
  OverLimit : (item : Item) → SpellsInRange e line after item → HasNewName e item → ¬ HasRoom e item
      → HasFault e line after fault.Limit
