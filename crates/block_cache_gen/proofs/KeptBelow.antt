-- What is known after public code of an expression that writes no register below one.
use Rattle.std.proofs.Common.{◌≡◌, ℕ, ◌+◌, ◌<◌, ◌≤◌, true, false, length}
use Rattle.lt_isa.specs.Prelude.{Parts}
use Rattle.src_tree.specs.Prelude.{context_of, label_of, Tree}
use Rattle.trace_patterns.specs.Prelude.{Known, is_secret, is_marked}
use Rattle.stretches.specs.Prelude.{Passes}
use Rattle.block_cache_gen.specs.declared.frames.Mode.TheVariants.{Public}
use Rattle.block_cache_gen.specs.Prelude.{Setting, expr_code, Carries, base_mask, HasLabel, first_kept}

-- Each register of expressions that a mask doesn't mark is below a register, and is public; of those that hold something
-- for the whole run the mask says what notes between statements say.
pub record LeavesPublic (f : Setting) (mask to : ℕ) (k : Known) : Type 0 where
  pub lower : (r : ℕ) → r < first_kept f → is_marked mask r ≡ false → (r < to) × (is_secret k r ≡ false)
  pub held : (r : ℕ) → first_kept f ≤ r → r < 32 → is_marked mask r ≡ is_marked (base_mask f) r

-- What is known after code that writes no register below `to`: the setting is carried; a register below is public if a
-- mask doesn't mark it, and one that may hold a secret still may.
pub record KeptBelow (f : Setting) (mask to : ℕ) (before after : Known) : Type 0 where
  pub carries : Carries f after
  pub publics : (r : ℕ) → r < to → is_marked mask r ≡ false → is_secret after r ≡ false
  pub secrets : (r : ℕ) → r < to → is_secret before r ≡ true → is_secret after r ≡ true

-- An expression's code at a place is passed, from the state on entry, if this holds at its first place: registers below
-- `to` are kept, and register `to` has the expression's label.
pub record PassedBelow (o : Parts) (f : Setting) (mask to place : ℕ) (e : Tree) (comes holds : Known) : Type 0 where
  pub last : Known
  pub passes : Passes o place comes (place + length (expr_code f Public to e)) last
  pub kept : KeptBelow f mask to holds last
  pub labelled : HasLabel last to (label_of (context_of f.decls) e)
