-- For the proofs and for private clauses only: what has been read of a text so far, for the computing form. (This
-- project's profile.)
use Rattle.std.specs.Prelude.{ℕ, ◌==◌, nat_le, nat_lt, Bool, not, ◌&&◌, ◌||◌, List, [], length, Option, None, is_some, bytes_eq}
use Rattle.std.specs.Ordering.{nat_cmp}
use Rattle.std.specs.Cmp.Lexicographic.{slice_cmp}
use Rattle.std.specs.BTreeMap.{insert_entry}
use Rattle.std.specs.Map.{lookup}
use Rattle.lt_isa.specs.declared.profiles.Profile.{Profile}
use Rattle.lt_isa.specs.declared.profiles.BankSpec.{BankSpec}
use Rattle.lt_isa.specs.declared.symbols.Symbol.{Symbol}
use Rattle.lt_isa.specs.declared.symbols.Note.{Note}
use Rattle.lt_isa.specs.declared.instructions.Instr.{Instr}
use Rattle.lt_isa.specs.Ranges.{next_place}
use Rattle.lt_assembler.specs.Words.{Word}

-- a label used as a target: its name, the place of the instruction, and the number of the line
pub record Use : Type 0 where
  pub name : Word
  pub place : ℕ
  pub line : ℕ

-- labels with their places, in the order of their names
abbrev pub Labels : Type 0
Labels = List (Word × ℕ)

pub record Draft : Type 0 where
  pub profile : Option Profile
  pub banks : List BankSpec
  pub symbols : List Symbol
  pub notes : List Note
  pub code : List Instr
  pub labels : Labels
  pub uses : List Use

-- before the first line
abbrev pub empty_draft : Draft
empty_draft = record { profile = None; banks = []; symbols = []; notes = []; code = []; labels = []; uses = [] }

-- the place of a label
abbrev pub place_of : Labels → Word → Option ℕ
place_of labels name = lookup (bytes_eq name) labels

abbrev pub with_label : Word → ℕ → Labels → Labels
with_label name place labels = insert_entry (slice_cmp nat_cmp) labels name place

-- whether a line of code was read
abbrev pub has_code : Draft → Bool
has_code d = not (length d.code == 0) || (not (length d.notes == 0) || not (length d.labels == 0))

-- Which lines may be next: banks after the first line, symbols after two banks, code after these.
abbrev pub takes_bank : Draft → Bool
takes_bank d = is_some d.profile && ((length d.symbols == 0) && not (has_code d))

abbrev pub takes_code : Draft → Bool
takes_code d = nat_le 2 (length d.banks)

abbrev pub takes_symbol : Draft → Bool
takes_symbol d = is_some d.profile && (takes_code d && not (has_code d))

-- whether the next instruction already has a note
abbrev pub is_noted : Draft → Bool
is_noted d = nat_lt (length d.code) (next_place d.notes)
