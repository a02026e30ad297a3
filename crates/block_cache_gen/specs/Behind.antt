-- What a call appended: what was there before is still a prefix, and this follows it. (This project's profile.)
use Rattle.std.specs.Prelude.{◌≡◌, List, ◌++◌, length, drop}
use Rattle.lt_isa.specs.declared.instructions.Instr.{Instr}
use Rattle.lt_isa.specs.declared.symbols.Note.{Note}
use Rattle.block_cache_gen.specs.declared.frames.CodeBuf.{CodeBuf}

abbrev pub code_behind : (before after : CodeBuf) → List Instr
code_behind before after = drop (length before.code.items) after.code.items

abbrev pub notes_behind : (before after : CodeBuf) → List Note
notes_behind before after = drop (length before.notes.items) after.notes.items

-- what was there is still there, at the front
pub record CodeGrows (before after : CodeBuf) : Type 0 where
  pub code : (more : List Instr) × (after.code.items ≡ before.code.items ++ more)
  pub notes : (more : List Note) × (after.notes.items ≡ before.notes.items ++ more)

-- nothing was appended
pub record IsAsBefore (before after : CodeBuf) : Type 0 where
  pub code : after.code.items ≡ before.code.items
  pub notes : after.notes.items ≡ before.notes.items
