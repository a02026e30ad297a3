-- For proofs, and for the functions that code_gen builds on: what is asked of the parts of a branch, and what is
-- appended for it.
use Rattle.std.specs.Prelude.{◌≡◌, ℕ, ◌+◌, ◌≤◌, List, length}
use Rattle.src_tree.specs.declared.trees.Guard.{Guard}
use Rattle.src_tree.specs.declared.trees.Stmt.{Stmt}
use Rattle.src_tree.specs.Contexts.{context_of}
use Rattle.src_tree.specs.Limits.{LowBlock, block_weight}
use Rattle.src_tree.specs.Trees.{Test, Statement, SetVariable, SetElement, Choice, Loop, Block, block_of_all, test_of}
use Rattle.src_tree.specs.Typing.{TypedBlock}
use Rattle.block_cache_gen.specs.declared.frames.CodeBuf.{CodeBuf}
use Rattle.block_cache_gen.specs.declared.frames.Mode.{Mode}
use Rattle.block_cache_gen.specs.Emitted.{Appended, notes_in}
use Rattle.block_cache_gen.specs.Homes.{Setting}
use Rattle.block_cache_gen.specs.Notes.{guard_notes}
use Rattle.branch_padding.specs.Padded.{arm_mode, padded_code}
use Rattle.gr_word.specs.declared.variables.Label.TheVariants as label

-- what two parts weigh together, as secret code
abbrev pub both_weights : Setting → Block → Block → ℕ
both_weights f first second =
    block_weight (context_of f.decls) label.Secret first + block_weight (context_of f.decls) label.Secret second

-- The parts of a branch whose first statements pair, this many of each, in code of an arm: both are secret code of a
-- program.
pub record PartsFit (f : Setting) (mode : Mode) (pairs : ℕ) (first second : List Stmt) : Type 0 where
  pub first_within : pairs ≤ length first
  pub second_within : pairs ≤ length second
  pub arm : arm_mode mode ≡ mode
  pub few : f.profile.taken ≤ 32
  pub first_typed : TypedBlock (context_of f.decls) label.Secret (block_of_all first)
  pub second_typed : TypedBlock (context_of f.decls) label.Secret (block_of_all second)
  pub first_low : LowBlock (block_of_all first)
  pub second_low : LowBlock (block_of_all second)

-- the branch of a guard and two parts
abbrev pub choice_of : Guard → List Stmt → List Stmt → Statement
choice_of guard first second = Choice (test_of guard) (block_of_all first) (block_of_all second)

abbrev pub IsChoice : Statement → Type 0
IsChoice (Choice t a b) = Unit {0}
IsChoice other = ⊥

-- a branch was appended, and in public code the notes of its guard
abbrev pub EmitsChoice : Setting → Mode → Test → Block → Block → CodeBuf → CodeBuf → Type 0
EmitsChoice f mode t a b before after =
    Appended before after (padded_code f mode (Choice t a b)) (λ place. notes_in mode (guard_notes f 0 place t))

abbrev pub EmitsBranch : Setting → Mode → Statement → CodeBuf → CodeBuf → Type 0
EmitsBranch f mode (Choice t a b) before after = EmitsChoice f mode t a b before after
EmitsBranch f mode other before after = ⊥
