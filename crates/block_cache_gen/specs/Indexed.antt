-- For private clauses only: the code and the notes of an index that becomes the number of a word.
use Rattle.std.specs.Prelude.{ℕ, ◌+◌, List, length, None}
use Rattle.lt_isa.specs.declared.instructions.Instr.{Instr}
use Rattle.lt_isa.specs.declared.symbols.Note.{Note}
use Rattle.block_cache_gen.specs.declared.indexes.Indexed.{Indexed}
use Rattle.block_cache_gen.specs.Codes.{numbered_code}
use Rattle.block_cache_gen.specs.Homes.{Setting}
use Rattle.block_cache_gen.specs.Notes.{compared_notes}
use Rattle.block_cache_gen.specs.Variables.{home_in}

abbrev pub code_of_index : Setting → Indexed → List Instr
code_of_index f i = numbered_code i.numbering f (home_in i.array) i.to i.from

-- the notes, if the code begins at a place
abbrev pub notes_of_index : Setting → Indexed → ℕ → List Note
notes_of_index f i place = compared_notes i.numbering None f i.mask i.to (place + length (code_of_index f i))
