-- What the last step keeps: the same iterations, and the same words of the module's variables. (This project's own.)
use Rattle.std.specs.Prelude.{◌≡◌, ℕ, ◌+◌, ◌<◌, ◌≤◌, Bool, true, List, [], length, Option, Some, None}
use Rattle.src_tree.specs.declared.trees.Decl.{Decl}
use Rattle.src_tree.specs.Meaning.{Store, Left, words_of_number, run_of_block}
use Rattle.module_tree.specs.Memory.{Memory}
use Rattle.flat_tree.specs.Trees.{Statement}
use Rattle.flat_tree.specs.Meaning.{State, run}
use Rattle.flat_core.specs.Core.{core_block, CoreStatement}

-- a store with a variable of one word for each scalar of the module and for each local that is active
pub record Sized (all most : ℕ) (is_scalar : ℕ → Bool) (store : Store) : Type 0 where
  pub long : all + most ≤ length store
  pub scalars : (k : ℕ) → k < all → is_scalar k ≡ true → length (words_of_number store k) ≡ 1
  pub locals : (p : ℕ) → all ≤ p → p < all + most → length (words_of_number store p) ≡ 1

-- a store that has the words of the module's variables
pub record Agrees (all : ℕ) (m : Memory) (store : Store) : Type 0 where
  pub same : (k : ℕ) → k < all → words_of_number store k ≡ m k

-- both run out of iterations, or both end with the same number of iterations left and the same words of these variables
pub data LeftAlike (all : ℕ) : Option State → Option Left → Type 0 where
  BothSpent : LeftAlike all None None
  BothLeft : {s : State} {t : Left} → s.turns ≡ t.turns → Agrees all s.memory t.store → LeftAlike all (Some s) (Some t)

abbrev pub CoreKeeps : List Decl → ℕ → ℕ → (ℕ → List ℕ) → (ℕ → Bool) → Statement → Type 0
CoreKeeps decls all most name is_scalar s =
    CoreStatement all is_scalar most [] s → (m : Memory) (store : Store) (turns : ℕ) → Agrees all m store
    → Sized all most is_scalar store
    → LeftAlike all (run s m turns)
    (run_of_block decls (core_block all name [] s) (record { store = store; turns = turns }))
