-- The contents of the lines before a line, from the items that they encode. (This project's profile.)
use Rattle.std.specs.Prelude.{ℕ, ◌^◌, List, [], ◌∷◌}
use Rattle.lt_isa.specs.declared.profiles.Profile.{Profile}
use Rattle.lt_isa.specs.declared.profiles.BankSpec.{BankSpec}
use Rattle.lt_isa.specs.declared.symbols.Symbol.{Symbol}
use Rattle.lt_isa.specs.declared.symbols.Note.{Note}
use Rattle.lt_assembler.specs.Words.{Word}
use Rattle.lt_assembler.specs.Items.{Item}
use Rattle.lt_assembler.specs.Spelled.{stage_behind, place_after, gathered, profile_in, bank_in, symbol_in, note_in, labels_in}

-- the stage after some items, and the place of the next instruction
abbrev pub stage_behind_all : ℕ → List Item → ℕ
stage_behind_all stage [] = stage
stage_behind_all stage (item ∷ items) = stage_behind_all (stage_behind stage item) items

abbrev pub place_after_all : ℕ → List Item → ℕ
place_after_all place [] = place
place_after_all place (item ∷ items) = place_after_all (place_after place item) items

-- the stage, the profile if there is one, the banks, symbols, notes and labels, and the place of the next instruction
pub record Earlier : Type 0 where
  pub stage : ℕ
  pub profile : List Profile
  pub banks : List BankSpec
  pub symbols : List Symbol
  pub notes : List Note
  pub labels : List (Word × ℕ)
  pub place : ℕ

abbrev pub given : List Item → Earlier
given items = record {
  stage = stage_behind_all 0 items;
  profile = gathered profile_in 0 items;
  banks = gathered bank_in 0 items;
  symbols = gathered symbol_in 0 items;
  notes = gathered note_in 0 items;
  labels = labels_in items;
  place = place_after_all 0 items;
}

-- the number of words of a block
abbrev pub block_words_by : List Profile → ℕ
block_words_by [] = 0
block_words_by (profile ∷ others) = 2 ^ profile.block_log
