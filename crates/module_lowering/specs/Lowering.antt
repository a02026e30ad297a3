-- The passes in order, from a module to a program of the core. (This project's compiler of modules.)
use Rattle.std.specs.Prelude.{ℕ, max, Bool, true, List, [], length}
use Rattle.src_tree.specs.declared.trees.Decl.{Decl}
use Rattle.src_tree.specs.Trees.{Source}
use Rattle.module_tree.specs.Trees.{Module}
use Rattle.module_calls.specs.Promise.{flattened}
use Rattle.flat_tree.specs.Trees.{Term, Statement}
use Rattle.flat_tree.specs.Bounds.{bound}
use Rattle.flat_passes.specs.Conditions.{conditions}
use Rattle.flat_passes.specs.Values.{values}
use Rattle.flat_core.specs.Core.{core_block}

-- a number that is at least n and above those of all variables of a statement
abbrev pub above : ℕ → Statement → ℕ
above n s = max n (bound s)

module _ (light : Statement → Bool) (needs_name : Term → Bool) where
  -- Conditions become choices as far as that is light, then expressions that the core lacks become variables, and then
  -- the values of these become choices.
  abbrev pub prepared : ℕ → Statement → Statement
  prepared n s =
      conditions (λ t. true)
      (values needs_name (above (above n s) (conditions light s)) (conditions light s))

  abbrev pub flat_module : Module → List ℕ → Statement
  flat_module m main = prepared (length m.items) (flattened m main)

  abbrev pub lowered_module : List Decl → (ℕ → List ℕ) → Module → List ℕ → Source
  lowered_module decls name m main = record {
    decls = decls;
    body = core_block (length m.items) name [] (flat_module m main);
  }
