-- A relation of states holds for the execution of any statements if it is reflexive and transitive, and holds for
-- writing a word and for starting an iteration.
use Rattle.std.proofs.Common.{◌≡◌, ℕ, zero, suc, Bool, true, false, if◌then◌else◌, ℤ, Option, Some, None, List, refl, subst}
use Rattle.std.specs.Option.{option_and_then}
use Rattle.src_tree.specs.declared.trees.Decl.{Decl}
use Rattle.src_tree.specs.Prelude.{Statement, SetVariable, SetElement, Choice, Loop, Block, Nothing, Then, Store, Left, Execution, with_word, guard_holds, in_turn, turn_taken, looped, loop, run_of, run_of_block}

-- a store, with the iterations that are left
abbrev pub left : Store → ℕ → Left
left store turns = record { store = store; turns = turns }

pub record IsKept (R : Left → Left → Type 0) : Type 0 where
  pub same : (before : Left) → R before before
  pub goes_on : (before between after : Left) → R before between → R between after → R before after
  pub turn : (store : Store) (turns : ℕ) → R (left store (suc turns)) (left store turns)

module _ (R : Left → Left → Type 0) (kept : IsKept R) where
  -- the state after statements is related to the state before
  abbrev pub Keeps : Execution → Type 0
  Keeps run = (before after : Left) → run before ≡ Some after → R before after

  pub one_keeps : (before next after : Left) → R before next → Some next ≡ Some after → R before after
  one_keeps before next after step e = subst (R before) (let same : next ≡ after = cc in same) step

  -- two executions in sequence
  pub both_keep : (first second : Execution) → Keeps first → Keeps second → Keeps (in_turn first second)
  both_keep first second one two before after e = through (first before) refl e
    where
      through : (r : Option Left) → first before ≡ r → option_and_then second r ≡ Some after → R before after
      through None e f = absurd (cc)
      through (Some between) e f =
          kept.goes_on before between after (one before between e) (two between after f)

  -- one of two executions
  pub either_keeps : (b : Bool) (first second : Execution) → Keeps first → Keeps second
      → Keeps (λ before. if b then first before else second before)
  either_keeps true first second one two = one
  either_keeps false first second one two = two

  taken_keeps : (body rest : Execution) → Keeps body → Keeps rest → (turns : ℕ) (store : Store) (after : Left)
      → turn_taken body rest turns store ≡ Some after → R (left store turns) after
  taken_keeps body rest one two zero store after e = absurd (cc)
  taken_keeps body rest one two (suc turns) store after e =
      kept.goes_on (left store (suc turns)) (left store turns) after (kept.turn store turns)
      (both_keep body rest one two (left store turns) after e)

  looped_keeps : (holds : Store → Bool) (body : Execution) → Keeps body → (most : ℕ) → Keeps (looped holds body most)
  unfolding looped
  looped_keeps holds body keeps zero before after e = ended (holds before.store) e
    where
      ended : (b : Bool) → (if b then None else Some before) ≡ Some after → R before after
      ended true e = absurd (cc)
      ended false e = one_keeps before before after (kept.same before) e
  looped_keeps holds body keeps (suc most) before after e =
      once (looped_keeps holds body keeps most) (holds before.store) e
    where
      once : Keeps (looped holds body most) → (b : Bool)
          → (if b then turn_taken body (looped holds body most) before.turns before.store else Some before)
          ≡ Some after
          → R before after
      once rest false e = one_keeps before before after (kept.same before) e
      once rest true e =
          taken_keeps body (looped holds body most) keeps rest before.turns before.store after e

  -- a loop
  pub loop_keeps : (holds : Store → Bool) (body : Execution) → Keeps body → Keeps (loop holds body)
  loop_keeps holds body keeps before after e = looped_keeps holds body keeps before.turns before after e

  module _ (word : (before : Left) (k at : ℕ) (value : ℤ)
      → R before (left (with_word before.store k at value) before.turns)) where
    mutual
      pub statement_keeps : (decls : List Decl) (s : Statement) → Keeps (run_of decls s)
      statement_keeps decls (SetVariable x e) before after f = one_keeps before _ after (word before _ _ _) f
      statement_keeps decls (SetElement x i e) before after f = one_keeps before _ after (word before _ _ _) f
      statement_keeps decls (Choice t a b) before after f =
          either_keeps (guard_holds decls before.store t) (run_of_block decls a) (run_of_block decls b)
          (block_keeps decls a) (block_keeps decls b) before after f
      statement_keeps decls (Loop t a) before after e =
          loop_keeps (λ store. guard_holds decls store t) (run_of_block decls a) (block_keeps decls a) before after e

      pub block_keeps : (decls : List Decl) (b : Block) → Keeps (run_of_block decls b)
      block_keeps decls Nothing before after e = one_keeps before before after (kept.same before) e
      block_keeps decls (Then s rest) before after e =
          both_keep (run_of decls s) (run_of_block decls rest) (statement_keeps decls s) (block_keeps decls rest)
          before after e
