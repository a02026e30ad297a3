-- How long the code is after each part of a choice by a public guard: what the choice may take is enough for the rest.
use Rattle.std.proofs.Common.{◌≡◌, ℕ, ◌+◌, ◌*◌, ◌≤◌, List, [], ◌∷◌, length, set, arith}
use Rattle.lt_isa.specs.declared.instructions.Instr.{Instr}
use Rattle.lt_isa.specs.declared.symbols.Note.{Note}
use Rattle.src_tree.specs.Prelude.{Test, Choice, Block, context_of, label_of_test, block_weight, statement_weight}
use Rattle.block_cache_gen.specs.declared.frames.CodeBuf.{CodeBuf}
use Rattle.block_cache_gen.specs.declared.frames.Mode.TheVariants.{Public}
use Rattle.block_cache_gen.specs.Prelude.{Setting, Appended, no_notes, EmitsGuard}
use Rattle.block_cache_gen.proofs.Emitting.{appended_length}
use Rattle.branch_padding.proofs.RegionLengths.{set-behind}
use Rattle.code_gen.proofs.EmittedParts.{guard-length, guard_code-short, choice_weight-public}
use Rattle.gr_word.specs.declared.variables.Label.TheVariants as label

module _ (f : Setting) (t : Test) (a b : Block) (public : label_of_test (context_of f.decls) t ≡ label.Public) where
  abbrev pub room : Block → ℕ
  room block = 120 * block_weight (context_of f.decls) label.Public block

  -- this many may still follow what there is now, if the choice began after some code
  abbrev pub Leaves : CodeBuf → CodeBuf → ℕ → Type 0
  Leaves out now rest =
      length now.code.items + rest
      ≤ length out.code.items + 120 * statement_weight (context_of f.decls) label.Public (Choice t a b)

  abbrev LongerBy : CodeBuf → CodeBuf → Block → Type 0
  LongerBy before after block = length after.code.items ≤ length before.code.items + room block

  -- the guard and its branch
  pub behind-branch : {out guarded branched : CodeBuf} {i : Instr} → EmitsGuard f Public 0 t out guarded
      → Appended guarded branched (i ∷ []) no_notes → Leaves out branched (100 + (room a + room b))
  behind-branch {out = out} {guarded = guarded} {branched = branched} {i = i} emitted branch =
      omega (
        arith,
        guard-length f t out guarded emitted,
        guard_code-short f t,
        appended_length guarded branched (i ∷ []) no_notes branch,
        choice_weight-public (context_of f.decls) t a b public,
      )

  -- the first block
  pub behind-first : {out guarded branched : CodeBuf} {i : Instr} (first : CodeBuf)
      → EmitsGuard f Public 0 t out guarded → Appended guarded branched (i ∷ []) no_notes → LongerBy branched first a
      → Leaves out first (100 + room b)
  behind-first first emitted branch short = omega (arith, behind-branch emitted branch, short)

  -- the jump over the second, the branch set, and the note of the second
  pub behind-head : {out guarded branched jumped headed : CodeBuf} {i j : Instr} {note : ℕ → List Note}
      (first marked : CodeBuf) (at : ℕ) (k : Instr) → EmitsGuard f Public 0 t out guarded
      → Appended guarded branched (i ∷ []) no_notes → LongerBy branched first a
      → Appended first jumped (j ∷ []) no_notes → marked.code.items ≡ set jumped.code.items at k
      → Appended marked headed [] note → Leaves out headed (99 + room b)
  behind-head {jumped = jumped} {headed = headed} {j = j} {note = note} first marked at k emitted branch short jump set
      head =
      omega (
        arith,
        behind-first first emitted branch short,
        appended_length first jumped (j ∷ []) no_notes jump,
        set-behind jumped.code.items marked.code.items at k set,
        appended_length marked headed [] note head,
      )
