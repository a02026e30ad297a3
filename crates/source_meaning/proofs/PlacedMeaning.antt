-- A program whose names are replaced by numbers has the same meaning, and its iterations never increase.
use Rattle.std.proofs.Common.{◌≡◌, Bool, true, false, if◌then◌else◌, Option, Some, List, refl, ap, ◌∙◌}
use Rattle.std.specs.Option.{option_and_then}
use Rattle.gr_word.specs.Prelude.{applied, compared}
use Rattle.src_tree.specs.declared.trees.Decl.{Decl}
use Rattle.src_tree.specs.Prelude.{Tree, Number, Variable, Element, Operation, Test, Statement, SetVariable, SetElement, Choice, Loop, Block, Nothing, Then, Store, Left, variable_number, element, scalar_set, element_set, evaluated, guard_holds, run_of, run_of_block}
use Rattle.src_tree.proofs.Loops.{TurnsFall, same_after, looped_alike, both_fall, loop_falls, one_falls, either_falls}
use Rattle.source_meaning.specs.Prelude.{Action, PutScalar, PutElement, Choose, Repeat, Actions, NoAction, Before, placed_tree, placed_test, placed_statement, placed_block, value_at, holds_at, act, act_all}

pub value_same : (decls : List Decl) (store : Store) (t : Tree)
    → value_at store (placed_tree decls t) ≡ evaluated decls store t
value_same decls store (Number z) = refl
value_same decls store (Variable x) = refl
value_same decls store (Element x i) = ap (element store (variable_number decls x)) (value_same decls store i)
value_same decls store (Operation op a b) =
    ap (λ z. applied op z (value_at store (placed_tree decls b))) (value_same decls store a)
    ∙ ap (applied op (evaluated decls store a)) (value_same decls store b)

holds_same : (decls : List Decl) (t : Test) (store : Store)
    → holds_at (placed_test decls t) store ≡ guard_holds decls store t
holds_same decls t store =
    ap (λ z. compared t.cmp z (value_at store (placed_tree decls t.right))) (value_same decls store t.left)
    ∙ ap (compared t.cmp (evaluated decls store t.left)) (value_same decls store t.right)

either_same : (b : Bool) (one other two another : Option Left) → one ≡ two → other ≡ another
    → (if b then one else other) ≡ (if b then two else another)
either_same true one other two another e f = e
either_same false one other two another e f = f

mutual
  pub act_same : (decls : List Decl) (s : Statement) (before : Left)
      → act (placed_statement decls s) before ≡ run_of decls s before
  act_same decls (SetVariable x e) before =
      ap (λ z. let l : Left = record before { store = scalar_set before.store (variable_number decls x) z } in Some l)
      (value_same decls before.store e)
  act_same decls (SetElement x i e) before =
      ap (λ y. let l : Left = record before {
        store = element_set before.store (variable_number decls x) y (value_at before.store (placed_tree decls e));
      } in Some l)
      (value_same decls before.store i)
      ∙ ap (λ z. let l : Left = record before {
        store = element_set before.store (variable_number decls x) (evaluated decls before.store i) z;
      } in Some l)
      (value_same decls before.store e)
  act_same decls (Choice t a b) before =
      ap (λ (c : Bool). if c then act_all (placed_block decls a) before else act_all (placed_block decls b) before)
      (holds_same decls t before.store)
      ∙ either_same (guard_holds decls before.store t) _ _ _ _ (acts_same decls a before) (acts_same decls b before)
  act_same decls (Loop t a) before =
      looped_alike (holds_at (placed_test decls t)) (λ store. guard_holds decls store t)
      (act_all (placed_block decls a))
      (run_of_block decls a) (holds_same decls t) (acts_same decls a) before.turns before

  pub acts_same : (decls : List Decl) (b : Block) (before : Left)
      → act_all (placed_block decls b) before ≡ run_of_block decls b before
  acts_same decls Nothing before = refl
  acts_same decls (Then s rest) before =
      ap (option_and_then (act_all (placed_block decls rest))) (act_same decls s before)
      ∙ same_after (act_all (placed_block decls rest)) (run_of_block decls rest) (run_of decls s before)
      (λ after e. acts_same decls rest after)

mutual
  pub act_falls : (a : Action) → TurnsFall (act a)
  act_falls (PutScalar k e) = record { fall = λ before after f. one_falls before after _ f }
  act_falls (PutElement k i e) = record { fall = λ before after f. one_falls before after _ f }
  act_falls (Choose t a b) =
      let first = acts_fall a in
      let second = acts_fall b in
      record {
        fall = λ before after e.
            either_falls (holds_at t before.store) (act_all a) (act_all b) first second before after e;
      }
  act_falls (Repeat t a) = loop_falls (holds_at t) (act_all a) (acts_fall a)

  -- actions never increase the iterations that are left
  pub acts_fall : (actions : Actions) → TurnsFall (act_all actions)
  acts_fall NoAction = record { fall = λ before after e. one_falls before after before.store e }
  acts_fall (Before first rest) = both_fall (act first) (act_all rest) (act_falls first) (acts_fall rest)

-- what a placed statement leaves is what the statement leaves
pub placed_run : (decls : List Decl) (s : Statement) (before : Left) (action : Action) (r : Option Left)
    → action ≡ placed_statement decls s → r ≡ act action before → r ≡ run_of decls s before
placed_run decls s before action r placed ran = ran ∙ ap (λ a. act a before) placed ∙ act_same decls s before
