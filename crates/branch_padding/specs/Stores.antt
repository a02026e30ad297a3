-- How many stores of a word the code of a statement has. With `--fast`, code without effect reads a word in place of
-- storing it, and such a read counts as a store. (This project's own padding.)
use Rattle.std.specs.Prelude.{ℕ, ◌+◌, ◌*◌, List, [], ◌∷◌, take, drop, sum_by, Option, Some, None}
use Rattle.gr_word.specs.declared.variables.Label.{Label}
use Rattle.gr_word.specs.declared.variables.Label.TheVariants.{Public, Secret}
use Rattle.src_tree.specs.Trees.{Statement, SetVariable, SetElement, Choice, Loop, Block, Nothing, Then}
use Rattle.src_tree.specs.Contexts.{context_of}
use Rattle.src_tree.specs.Labels.{inside}
use Rattle.block_cache_gen.specs.Homes.{Setting}
use Rattle.block_cache_gen.specs.Alike.{pair_count}
use Rattle.block_cache_gen.specs.StoredWords.{set_stores}
use Rattle.branch_padding.specs.declared.cycles.Slack.{Slack}
use Rattle.branch_padding.specs.Cycles.{slack_of}
use Rattle.branch_padding.specs.AfterStatements.{after_in, within_loop_in}

-- some numbers of stores together
abbrev pub added_up : List ℕ → ℕ
added_up counts = sum_by (λ n. n) counts

-- Each arm of a branch on a secret has the stores of the k statements that pair, and those of both rests. If it is quiet,
-- each arm has only its own.
abbrev pub arms_stores : Option Slack → ℕ → (first second : List ℕ) → ℕ
arms_stores None k first second =
    2 * (added_up (take k first) + (added_up (drop k first) + added_up (drop k second)))
arms_stores (Some slack) k first second = added_up first + added_up second

-- A choice whose parts are public code has the stores of both.
abbrev pub choice_stores : Label → Option Slack → ℕ → (first second : List ℕ) → ℕ
choice_stores Public slack k first second = added_up first + added_up second
choice_stores Secret slack k first second = arms_stores slack k first second

-- the stores of a statement in code of a label, and of each statement of a block
abbrev mutual
  pub stores_of : Setting → Label → Statement → ℕ
  stores_of f code (SetVariable x e) = set_stores f (SetVariable x e)
  stores_of f code (SetElement x i e) = set_stores f (SetElement x i e)
  stores_of f code (Choice t a b) =
      choice_stores (inside (context_of f.decls) code t) (slack_of f a b) (pair_count f a b)
      (stores_of_each f (inside (context_of f.decls) code t) a)
      (stores_of_each f (inside (context_of f.decls) code t) b)
  stores_of f code (Loop t a) = added_up (stores_of_each (within_loop_in code f t a) code a)

  pub stores_of_each : Setting → Label → Block → List ℕ
  stores_of_each f code Nothing = []
  stores_of_each f code (Then s rest) = stores_of f code s ∷ stores_of_each (after_in code f s) code rest
