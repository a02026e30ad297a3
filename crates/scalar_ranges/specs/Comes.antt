-- Which statements the execution of a block reaches, with the store there and what the compiler knows there. An
-- execution reaches a statement even if it is spent later. (This project's compiler.)
use Rattle.std.specs.Prelude.{◌≡◌, suc, true, false, List, Some}
use Rattle.src_tree.specs.declared.trees.Decl.{Decl}
use Rattle.src_tree.specs.Meaning.{Store, Left, guard_holds, run_of, run_of_block}
use Rattle.src_tree.specs.Trees.{Test, Statement, Choice, Loop, Block, Then}
use Rattle.scalar_ranges.specs.Ranges.{Ranges}
use Rattle.scalar_ranges.specs.Known.{after_statement, inside}

-- a loop's guard is true and an iteration is left; in the body, one fewer is left
pub record Enters (decls : List Decl) (t : Test) (before inner : Left) : Type 0 where
  pub holds : guard_holds decls before.store t ≡ true
  pub turns : before.turns ≡ suc inner.turns
  pub store : inner.store ≡ before.store

-- a loop comes back to its guard, after any number of iterations
pub data Returns (decls : List Decl) (t : Test) (a : Block) (before : Left) : Left → Type 0 where
  AtOnce : Returns decls t a before before
  Again : (between inner after : Left) → Returns decls t a before between → Enters decls t between inner
      → run_of_block decls a inner ≡ Some after → Returns decls t a before after

-- An execution of a block from a state, where the ranges before it are known, reaches a statement at a store, and these
-- ranges are known there.
pub data Comes (decls : List Decl) : Ranges → Block → Left → Ranges → Statement → Store → Type 0 where
  First : (known : Ranges) (s : Statement) (rest : Block) (before : Left)
      → Comes decls known (Then s rest) before known s before.store
  Later : (known : Ranges) (s : Statement) (rest : Block) (before between : Left) (there : Ranges) (t : Statement)
      (store : Store) → run_of decls s before ≡ Some between
      → Comes decls (after_statement decls known s) rest between there t store
      → Comes decls known (Then s rest) before there t store
  InFirst : (known : Ranges) (t : Test) (a b rest : Block) (before : Left) (there : Ranges) (s : Statement)
      (store : Store) → guard_holds decls before.store t ≡ true → Comes decls known a before there s store
      → Comes decls known (Then (Choice t a b) rest) before there s store
  InSecond : (known : Ranges) (t : Test) (a b rest : Block) (before : Left) (there : Ranges) (s : Statement)
      (store : Store) → guard_holds decls before.store t ≡ false → Comes decls known b before there s store
      → Comes decls known (Then (Choice t a b) rest) before there s store
  InLoop : (known : Ranges) (t : Test) (a rest : Block) (before again inner : Left) (there : Ranges) (s : Statement)
      (store : Store) → Returns decls t a before again → Enters decls t again inner
      → Comes decls (inside decls known t a) a inner there s store
      → Comes decls known (Then (Loop t a) rest) before there s store
