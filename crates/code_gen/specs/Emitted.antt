-- For the proofs and for private clauses only: what a call appends for statements of public code.
use Rattle.std.specs.Prelude.{◌≡◌, ℕ, ◌+◌, ◌-◌, ◌*◌, ◌≤◌, Bool, ◌||◌, ◌==◌, pos, negsuc, List, [], ◌∷◌, ◌++◌, length, slice_set}
use Rattle.gr_word.specs.declared.operations.Cmp.{Cmp}
use Rattle.lt_isa.specs.Limits.{most_instructions}
use Rattle.lt_isa.specs.declared.symbols.Note.{Note}
use Rattle.lt_isa.specs.declared.instructions.Instr.{Instr}
use Rattle.lt_isa.specs.declared.instructions.Instr.TheVariants.{Jmp, Br}
use Rattle.src_tree.specs.declared.trees.Decl.{Decl}
use Rattle.scalar_ranges.specs.Ranges.{Ranges}
use Rattle.src_tree.specs.Contexts.{context_of}
use Rattle.src_tree.specs.Limits.{LowStatement, statement_weight}
use Rattle.src_tree.specs.Typing.{TypedStatement}
use Rattle.src_tree.specs.Trees.{Test, Statement, Choice, Block, Nothing, Then}
use Rattle.block_cache_gen.specs.declared.frames.CodeBuf.{CodeBuf}
use Rattle.block_cache_gen.specs.declared.frames.Mode.TheVariants.{Public}
use Rattle.block_cache_gen.specs.Homes.{Setting, ranged}
use Rattle.block_cache_gen.specs.Codes.{guard_code}
use Rattle.block_cache_gen.specs.Notes.{guard_notes}
use Rattle.block_cache_gen.specs.Emitted.{Appended}
use Rattle.block_cache_gen.specs.ProgramWords.{StatementHasWords}
use Rattle.branch_padding.specs.Padded.{padded_code}
use Rattle.code_gen.specs.Statements.{Padding, opposite, second_code, statement_code, block_code, statement_notes, block_notes, ends_noted, block_ends_noted, head_note, head_unless}
use Rattle.gr_word.specs.declared.variables.Label.TheVariants as label

-- the code of branches on secrets
abbrev pub padding_of : Padding
padding_of f t a b = padded_code f Public (Choice t a b)

abbrev pub EmitsStatement : Setting → Statement → CodeBuf → CodeBuf → Type 0
EmitsStatement f s before after =
    Appended before after (statement_code f padding_of s) (λ place. statement_notes f padding_of place s)

-- a statement of public code whose code may follow code
pub record MayFollow (f : Setting) (s : Statement) (before : CodeBuf) : Type 0 where
  pub typed : TypedStatement (context_of f.decls) label.Public s
  pub low : LowStatement s
  pub room : length before.code.items + 120 * statement_weight (context_of f.decls) label.Public s
      ≤ most_instructions

-- its code was appended, and is no longer than its weight allows
pub record Puts (f : Setting) (s : Statement) (before after : CodeBuf) : Type 0 where
  pub emitted : EmitsStatement f s before after
  pub short : length after.code.items
      ≤ length before.code.items + 120 * statement_weight (context_of f.decls) label.Public s
  pub words : StatementHasWords s

abbrev pub EmitsBlock : Setting → Block → CodeBuf → CodeBuf → Type 0
EmitsBlock f b before after =
    Appended before after (block_code f padding_of b) (λ place. block_notes f padding_of place b)

-- After the body of a loop whose jump is at a place: the jump leads here, and the guard follows with its branch back.
-- The guard is made for what is known there.
pub record ClosesLoop (f : Setting) (known : Ranges) (t : Test) (start : ℕ) (noted : Bool)
    (before after : CodeBuf) : Type 0 where
  pub code : after.code.items
      ≡ slice_set before.code.items start (Jmp (pos (length before.code.items - start)))
      ++ (guard_code (ranged f known) Public 0 t
      ++ Br t.cmp 0 1
      (negsuc ((length before.code.items + length (guard_code (ranged f known) Public 0 t)) - (start + 1) - 1))
      ∷ [])
  pub notes : after.notes.items
      ≡ before.notes.items
      ++ (head_unless (noted || (length before.code.items == start + 1)) f (length before.code.items)
      ++ guard_notes (ranged f known) 0 (length before.code.items) t)

-- how many places a jump before the second block of a choice takes
abbrev pub before_second : List Instr → ℕ
before_second [] = 0
before_second (i ∷ code) = 1

-- the notes from the end of the first block on: at the second block, and at the end
abbrev pub second_notes : Setting → ℕ → List Instr → List Note → (Bool × Bool) → List Note
second_notes f place [] others ends = head_unless ends.0 f place
second_notes f place (i ∷ code) others ends =
    head_note f (place + 1) ∷ (others ++ head_unless ends.1 f (place + (1 + length (i ∷ code))))

-- After the first block of a choice whose branch is at a place: the branch leads to the second block, which follows.
pub record ClosesChoice (f : Setting) (cmp : Cmp) (branch : ℕ) (noted : Bool) (b : Block)
    (before after : CodeBuf) : Type 0 where
  pub code : after.code.items
      ≡ slice_set before.code.items branch
      (Br (opposite cmp) 0 1 (pos (length before.code.items - branch + before_second (block_code f padding_of b))))
      ++ second_code (block_code f padding_of b)
  pub notes : after.notes.items
      ≡ before.notes.items
      ++ second_notes f (length before.code.items) (block_code f padding_of b)
      (block_notes f padding_of (length before.code.items + 1) b) (noted, block_ends_noted f.decls b)

-- whether there is a note just after a block, given whether there is one just before it
abbrev pub noted_behind : List Decl → Bool → Block → Bool
noted_behind decls noted Nothing = noted
noted_behind decls noted (Then s rest) = noted_behind decls (ends_noted decls s) rest
