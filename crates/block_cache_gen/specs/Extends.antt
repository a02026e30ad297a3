-- What each call that makes code appends, whichever instructions these are (this project's limits of compiled code).
use Rattle.std.specs.Prelude.{◌≡◌, ℕ, ◌+◌, ◌*◌, ◌<◌, ◌≤◌, All, List, [], ◌++◌, length}
use Rattle.gr_base.specs.Lists.{EachAfter}
use Rattle.lt_isa.specs.declared.instructions.Instr.{Instr}
use Rattle.lt_isa.specs.declared.symbols.Note.{Note}
use Rattle.lt_isa.specs.Ranges.{InstrFits, NoteFits, next_place}
use Rattle.block_cache_gen.specs.declared.frames.CodeBuf.{CodeBuf}
use Rattle.block_cache_gen.specs.declared.frames.Mode.{Mode}
use Rattle.block_cache_gen.specs.declared.frames.Mode.TheVariants.{Public}

-- What was there is followed by more instructions and notes: at most 120 and 16 of them for each unit of a weight, all
-- in their ranges if there are this many banks. The notes rise, also after those that end before this code; each is at
-- one of these instructions other than the first; and in secret code there are none.
pub record Extends (banks : ℕ) (mode : Mode) (weight : ℕ) (before after : CodeBuf) : Type 0 where
  pub more : List Instr
  pub noted : List Note
  pub code : after.code.items ≡ before.code.items ++ more
  pub notes : after.notes.items ≡ before.notes.items ++ noted
  pub few : length more ≤ 120 * weight
  pub few_notes : length noted ≤ 16 * weight
  pub in_range : All (InstrFits banks) more
  pub rising : (earlier : List Note) → next_place earlier ≤ length before.code.items + 1
      → EachAfter (NoteFits banks) earlier noted
  pub placed : All (λ n. (length before.code.items < n.pc) × (n.pc < length after.code.items)) noted
  pub silent : ¬ (mode ≡ Public) → noted ≡ []
