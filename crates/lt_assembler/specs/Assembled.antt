-- For the proofs and for private clauses only: the object that is read from a text, or the text's first error. This is
-- the computing form of `SpellsInText` and `IsFirstTextFault`. (This project's profile.)
use Rattle.std.specs.Prelude.{ℕ, ◌+◌, nat_le, ◌==◌, Bool, not, ◌&&◌, if◌then◌else◌, List, [], ◌∷◌, length, Option, Some, None, Result, Ok, Err, slice_index_or, slice_set}
use Rattle.lt_isa.specs.declared.profiles.Profile.{Profile}
use Rattle.lt_isa.specs.declared.instructions.Instr.{Instr}
use Rattle.lt_isa.specs.declared.instructions.Instr.TheVariants.{Nop}
use Rattle.lt_isa.specs.Object.{Parts}
use Rattle.lt_assembler.specs.declared.errors.AsmError.{AsmError}
use Rattle.lt_assembler.specs.declared.errors.AsmError.TheVariants.{BadLine, UnknownName}
use Rattle.lt_isa.specs.InstructionTable.{with_offset}
use Rattle.lt_assembler.specs.Lines.{lines}
use Rattle.gr_base.specs.Results.{◌>>=◌}
use Rattle.lt_assembler.specs.Instructions.{offset_to}
use Rattle.lt_assembler.specs.Drafts.{Use, Labels, Draft, empty_draft, place_of}
use Rattle.lt_assembler.specs.Reading.{read_lines}

-- the code with the target of one use, if its label has this place
unfoldable pub aimed : Option ℕ → Use → List Instr → Result (List Instr) AsmError
aimed None u code = Err (UnknownName u.line)
aimed (Some target) u code =
    Ok (slice_set code u.place (with_offset (offset_to target u.place) (slice_index_or code u.place Nop)))

-- the code with the targets of all uses
unfoldable pub settled : Labels → List Use → List Instr → Result (List Instr) AsmError
settled labels [] code = Ok code
settled labels (u ∷ uses) code = aimed (place_of labels u.name) u code >>= settled labels uses

abbrev pub parts_of : Profile → Draft → List Instr → Parts
parts_of profile d code =
    record { profile = profile; banks = d.banks; symbols = d.symbols; notes = d.notes; code = code }

-- there are two banks and an instruction
abbrev pub is_whole : Draft → Bool
is_whole d = nat_le 2 (length d.banks) && not (length d.code == 0)

abbrev pub finished_with : ℕ → Option Profile → Draft → Result Parts AsmError
finished_with n None d = Err (BadLine n)
finished_with n (Some profile) d =
    if is_whole d then settled d.labels d.uses d.code >>= (λ code. Ok (parts_of profile d code)) else Err (BadLine n)

-- the object of what was read at the end of a text; n is the number of the line after the last
unfoldable pub finished : ℕ → Draft → Result Parts AsmError
finished n d = finished_with n d.profile d

unfoldable pub assembled : List ℕ → Result Parts AsmError
assembled text = read_lines 1 (lines text) empty_draft >>= finished (length (lines text) + 1)

-- what is read from the lines of a text, and the number of the line after the last
abbrev pub text_read : List ℕ → Result (Draft × ℕ) AsmError
text_read text = read_lines 1 (lines text) empty_draft >>= (λ d. Ok (d, length (lines text) + 1))
