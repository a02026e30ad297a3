-- What is allowed in the fields of an object file, apart from numbers in a range: a name that no earlier symbol has,
-- and the length of a symbol. (This project's profile.)
use Rattle.std.specs.Prelude.{ℕ, ◌-◌, min, Bool, not, ◌&&◌, ◌==◌, if◌then◌else◌, List, bytes_eq}
use Rattle.std.specs.List.{list_all}
use Rattle.gr_word.specs.declared.variables.Label.{Label}
use Rattle.gr_word.specs.declared.variables.Label.TheVariants.{Public, Secret}
use Rattle.gr_word.specs.declared.variables.Shape.{Shape}
use Rattle.gr_word.specs.declared.variables.Shape.TheVariants.{Scalar, Array}
use Rattle.gr_word.specs.Names.{is_name}
use Rattle.lt_isa.specs.declared.profiles.BankSpec.{BankSpec}
use Rattle.lt_isa.specs.declared.symbols.Symbol.{Symbol}
use Rattle.lt_isa.specs.Limits.{most_symbol_words}
use Rattle.lt_isa.specs.SymbolPlaces.{most_length}
use Rattle.lt_isa.specs.Ranges.{total_length}

-- The bytes are a name that no symbol has so far.
unfoldable pub is_new_name : List Symbol → List ℕ → Bool
is_new_name before name = is_name name && list_all (λ s. not (bytes_eq s.name name)) before

-- a label and a shape by their numbers
abbrev pub label_numbered : ℕ → Label
label_numbered n = if n == 0 then Public else Secret

abbrev pub shape_numbered : ℕ → Shape
shape_numbered n = if n == 0 then Scalar else Array

-- the most words of a symbol from word number `start` of a bank on, after some symbols
unfoldable pub most_length_behind : ℕ → List BankSpec → List Symbol → Shape → ℕ → ℕ → ℕ
most_length_behind w banks before shape bank start =
    min (most_length w banks shape bank start) (most_symbol_words - total_length before)
