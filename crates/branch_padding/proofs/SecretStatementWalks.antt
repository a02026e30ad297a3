-- The code of statements in secret code, at any place in an arm.
use Rattle.std.proofs.Common.{◌≡◌, ◌≤◌, false}
use Rattle.gr_word.specs.declared.variables.Label.TheVariants.{Secret}
use Rattle.src_tree.specs.Prelude.{context_of, LowStatement, Statement, TypedStatement}
use Rattle.block_cache_gen.specs.declared.frames.Mode.{Mode}
use Rattle.block_cache_gen.specs.Prelude.{Setting, may_skip_loads, StatementHasPublicIndexes}
use Rattle.block_cache_gen.proofs.SecretWalks.{walk-goes}
use Rattle.branch_padding.specs.Prelude.{padded_code, shows_of, slots_of, IsWalkedAsStatement}
use Rattle.branch_padding.proofs.SecretStatements.{statement-goes}

-- the code of a statement is walked in an arm
pub statement-walked : (f : Setting) (mode : Mode) → may_skip_loads mode ≡ false → 1 ≤ f.profile.taken → (s : Statement)
    → TypedStatement (context_of f.decls) Secret s → StatementHasPublicIndexes f s → LowStatement s
    → IsWalkedAsStatement f s (padded_code f mode s)
statement-walked f mode secret some s typed public low = λ o depth p state homes stands carries around.
    walk-goes o f depth p state (padded_code f mode s) (shows_of f s) (slots_of f s) stands
    (statement-goes o f homes some s mode secret depth typed public low around state carries)
