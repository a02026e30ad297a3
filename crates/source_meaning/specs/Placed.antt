-- For the proofs and for private clauses only: programs as they are executed, with numbers of variables instead of
-- names. Their meaning is that of the program from which they are made.
use Rattle.std.specs.Prelude.{ℕ, ℤ, Bool, if◌then◌else◌, List, [], ◌∷◌, map, Option, Some, None}
use Rattle.gr_word.specs.Words.{applied, compared}
use Rattle.gr_word.specs.declared.operations.Op.{Op}
use Rattle.gr_word.specs.declared.operations.Cmp.{Cmp}
use Rattle.src_tree.specs.declared.trees.Decl.{Decl}
use Rattle.src_tree.specs.Trees.{Tree, Number, Variable, Element, Operation, Test, Statement, SetVariable, SetElement, Choice, Loop, Block, Nothing, Then}
use Rattle.src_tree.specs.Meaning.{Store, Left, Execution, variable_number, scalar, element, scalar_set, element_set, in_turn, loop}
use Rattle.source_meaning.specs.declared.placed.Term.{Term}
use Rattle.source_meaning.specs.declared.placed.Check.{Check}
use Rattle.source_meaning.specs.declared.placed.Step.{Step}
use Rattle.source_meaning.specs.declared.placed.Step.TheOpen.{Step-F}
use Rattle.source_meaning.specs.declared.placed.Step.TheFolds.{fold-Step}
use Rattle.source_meaning.specs.declared.placed.Term.TheVariants as term
use Rattle.source_meaning.specs.declared.placed.Step.TheOpen as open_step

pub data Placed : Type 0 where
  Constant : (value : ℤ) → Placed
  ScalarAt : (k : ℕ) → Placed
  ElementAt : (k : ℕ) (index : Placed) → Placed
  ResultOf : (op : Op) (left right : Placed) → Placed

pub record PlacedTest : Type 0 where
  pub cmp : Cmp
  pub left : Placed
  pub right : Placed

mutual
  pub data Action : Type 0 where
    PutScalar : (k : ℕ) (value : Placed) → Action
    PutElement : (k : ℕ) (index value : Placed) → Action
    Choose : (test : PlacedTest) (first second : Actions) → Action
    Repeat : (test : PlacedTest) (body : Actions) → Action

  pub data Actions : Type 0 where
    NoAction : Actions
    Before : (first : Action) (rest : Actions) → Actions

-- a tree whose names are replaced by numbers
abbrev pub placed_tree : List Decl → Tree → Placed
placed_tree decls (Number z) = Constant z
placed_tree decls (Variable x) = ScalarAt (variable_number decls x)
placed_tree decls (Element x i) = ElementAt (variable_number decls x) (placed_tree decls i)
placed_tree decls (Operation op a b) = ResultOf op (placed_tree decls a) (placed_tree decls b)

abbrev pub placed_test : List Decl → Test → PlacedTest
placed_test decls t = record { cmp = t.cmp; left = placed_tree decls t.left; right = placed_tree decls t.right }

abbrev mutual
  pub placed_statement : List Decl → Statement → Action
  placed_statement decls (SetVariable x e) = PutScalar (variable_number decls x) (placed_tree decls e)
  placed_statement decls (SetElement x i e) =
      PutElement (variable_number decls x) (placed_tree decls i) (placed_tree decls e)
  placed_statement decls (Choice t a b) = Choose (placed_test decls t) (placed_block decls a) (placed_block decls b)
  placed_statement decls (Loop t a) = Repeat (placed_test decls t) (placed_block decls a)

  pub placed_block : List Decl → Block → Actions
  placed_block decls Nothing = NoAction
  placed_block decls (Then s rest) = Before (placed_statement decls s) (placed_block decls rest)

-- what the code's values represent
abbrev pub placed_of : Term → Placed
placed_of (term.Constant z) = Constant z
placed_of (term.Scalar k) = ScalarAt k
placed_of (term.Element' k p i) = ElementAt k (placed_of i)
placed_of (term.Operation' op p a q b) = ResultOf op (placed_of a) (placed_of b)

abbrev pub placed_check : Check → PlacedTest
placed_check c = record { cmp = c.cmp; left = placed_of c.left; right = placed_of c.right }

abbrev pub actions_of : List Action → Actions
actions_of [] = NoAction
actions_of (a ∷ rest) = Before a (actions_of rest)

abbrev pub action_step : Step-F Action → Action
action_step (open_step.SetScalar k e) = PutScalar k (placed_of e)
action_step (open_step.SetElement k i e) = PutElement k (placed_of i) (placed_of e)
action_step (open_step.Choice c a b) = Choose (placed_check c) (actions_of a.items) (actions_of b.items)
action_step (open_step.Loop c a) = Repeat (placed_check c) (actions_of a.items)

abbrev pub action_of : Step → Action
action_of = fold-Step Action action_step

abbrev pub actions_of_all : List Step → Actions
actions_of_all steps = actions_of (map action_of steps)

-- actions, and then others
abbrev pub actions_joined : Actions → Actions → Actions
actions_joined NoAction others = others
actions_joined (Before first rest) others = Before first (actions_joined rest others)

-- the meaning of such trees
abbrev pub value_at : Store → Placed → ℤ
value_at store (Constant z) = z
value_at store (ScalarAt k) = scalar store k
value_at store (ElementAt k i) = element store k (value_at store i)
value_at store (ResultOf op a b) = applied op (value_at store a) (value_at store b)

abbrev pub holds_at : PlacedTest → Store → Bool
holds_at t store = compared t.cmp (value_at store t.left) (value_at store t.right)

abbrev mutual
  pub act : Action → Execution
  act (PutScalar k e) before = Some (record before { store = scalar_set before.store k (value_at before.store e) })
  act (PutElement k i e) before =
      Some (record before { store = element_set before.store k (value_at before.store i) (value_at before.store e) })
  act (Choose t a b) before = if holds_at t before.store then act_all a before else act_all b before
  act (Repeat t a) before = loop (holds_at t) (act_all a) before

  pub act_all : Actions → Execution
  act_all NoAction before = Some before
  act_all (Before first rest) before = in_turn (act first) (act_all rest) before

-- a store with the iterations that are left, or nothing if it is spent
abbrev pub left_with : Store → ℕ → Left
left_with store turns = record { store = store; turns = turns }

abbrev pub with_turns : Store → Option ℕ → Option Left
with_turns store None = None
with_turns store (Some turns) = Some (left_with store turns)
