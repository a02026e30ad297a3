-- The theorem: the core program that a module becomes does with the module's variables what the module means. (This
-- project's own.)
use Rattle.std.specs.Prelude.{◌≡◌, ℕ, ◌+◌, ◌<◌, ℤ, Bool, List, length, Option, Some, None}
use Rattle.src_tree.specs.declared.trees.Decl.{Decl}
use Rattle.src_tree.specs.Meaning.{Store, variable_number, meaning}
use Rattle.module_tree.specs.Memory.{Memory}
use Rattle.module_tree.specs.Trees.{Module}
use Rattle.module_tree.specs.Meaning.{module_meaning}
use Rattle.module_calls.specs.FirstAssignments.{before_start, OnlyForZeros}
use Rattle.flat_tree.specs.Trees.{Term, Statement}
use Rattle.flat_core.specs.Promise.{Sized, Agrees}
use Rattle.module_lowering.specs.Lowering.{flat_module, lowered_module}
use Rattle.module_lowering.specs.Naming.{single_at}
use Rattle.module_lowering.specs.Shape.{depth}

-- both run out of iterations, or both leave the same words in the module's variables
pub data Computes (all : ℕ) : Option Memory → Option Store → Type 0 where
  BothSpent : Computes all None None
  BothLeft : {m : Memory} {store : Store} → Agrees all m store → Computes all (Some m) (Some store)

-- Declarations of the module's variables, in the order of the items, and of `most` scalars after them.
abbrev pub Declares : List Decl → (ℕ → List ℕ) → ℕ → ℕ → Type 0
Declares decls name all most = (p : ℕ) → p < all + most → variable_number decls (name p) ≡ p

-- The largest number of locals that are active together; that many scalars follow the module's variables.
abbrev pub locals_of : (Statement → Bool) → (Term → Bool) → Module → List ℕ → ℕ
locals_of light needs_name m main = depth (flat_module light needs_name m main)

-- for all numbers of iterations, and all stores of enough variables that hold zeros and the inputs
abbrev pub Lowers : (Statement → Bool) → (Term → Bool) → List Decl → (ℕ → List ℕ) → Module → List ℕ → Type 0
Lowers light needs_name decls name m main =
    (inputs : ℕ → Option (List ℤ)) (turns : ℕ) (store : Store) → OnlyForZeros m.items inputs
    → Agrees (length m.items) (before_start m.items inputs) store
    → Sized (length m.items) (locals_of light needs_name m main) (single_at m.items) store
    → Computes (length m.items) (module_meaning m main inputs turns)
    (meaning (lowered_module light needs_name decls name m main) store turns)
