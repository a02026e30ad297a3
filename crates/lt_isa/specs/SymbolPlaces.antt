-- Where a symbol may be after others, and how long it may be (this project's profile).
use Rattle.std.specs.Prelude.{◌≡◌, ℕ, ◌-◌, ◌*◌, ◌<◌, ◌≤◌, min, ◌==◌, if◌then◌else◌, List, length, slice_index_or}
use Rattle.gr_word.specs.declared.variables.Shape.{Shape}
use Rattle.gr_base.specs.Lists.{Within, at_last}
use Rattle.lt_isa.specs.declared.profiles.BankSpec.{BankSpec}
use Rattle.lt_isa.specs.declared.symbols.Symbol.{Symbol}
use Rattle.lt_isa.specs.Object.{no_bank, first_word, end_word}
use Rattle.lt_isa.specs.Limits.{most_words}

-- the bank of the last of some symbols, and the number of the first free word after it
abbrev pub last_bank : List Symbol → ℕ
last_bank symbols = at_last (λ s. s.bank) symbols

abbrev pub last_end : ℕ → List Symbol → ℕ
last_end w symbols = at_last (end_word w) symbols

-- the number of blocks of bank b
abbrev pub blocks_in : List BankSpec → ℕ → ℕ
blocks_in banks b = (slice_index_or banks b no_bank).blocks

-- A symbol may have its place: symbols are in order of bank and place and don't overlap, and a symbol is within its
-- bank, if a block has w words.
pub record LiesBehind (w : ℕ) (banks : List BankSpec) (before : List Symbol) (s : Symbol) : Type 0 where
  pub order : last_bank before ≤ s.bank
  pub bank : s.bank < length banks
  pub block : s.block < blocks_in banks s.bank
  pub word : s.word < w
  pub apart : s.bank ≡ last_bank before → last_end w before ≤ first_word w s
  pub length : Within 1 (most_words s.shape) s.length
  pub inside : end_word w s ≤ blocks_in banks s.bank * w

-- the first word of a block that is free after some symbols, if a block has w words
unfoldable pub first_free_word : ℕ → List Symbol → ℕ → ℕ → ℕ
first_free_word w before bank block = if bank == last_bank before then last_end w before - block * w else 0

-- the most words of a symbol that begins at word number `start` of a bank
unfoldable pub most_length : ℕ → List BankSpec → Shape → ℕ → ℕ → ℕ
most_length w banks shape bank start = min (most_words shape) (blocks_in banks bank * w - start)

-- a symbol may have its place, field by field: each field is in a range that the fields before it determine
-- why: people read `LiesBehind`. This form gives each field's range in sequence, and so the errors of object files and
-- texts.
pub record FieldsFit (w : ℕ) (banks : List BankSpec) (before : List Symbol) (s : Symbol) : Type 0 where
  pub order : last_bank before ≤ s.bank
  pub bank : s.bank < length banks
  pub block : s.block < blocks_in banks s.bank
  pub free : first_free_word w before s.bank s.block ≤ s.word
  pub word : s.word < w
  pub length : Within 1 (most_length w banks s.shape s.bank (first_word w s)) s.length
