-- When a program is well typed. The rules are on trees, like those of Volpano, Smith and Irvine (1996) and of
-- GhostRider's type system (ASPLOS 2015): no secret flows to anything public, whether by a value, by the index of a
-- public array, or by a choice between statements; and no loop depends on a secret.
use Rattle.std.specs.Prelude.{◌≡◌, ℕ, List, [], Some, None}
use Rattle.gr_base.specs.Lists.{EachAfter}
use Rattle.gr_word.specs.declared.variables.Label.{Label}
use Rattle.gr_word.specs.declared.variables.Label.TheVariants.{Public, Secret}
use Rattle.gr_word.specs.declared.variables.Shape.{Shape}
use Rattle.gr_word.specs.declared.variables.Shape.TheVariants.{Scalar, Array}
use Rattle.src_tree.specs.declared.trees.Decl.{Decl}
use Rattle.src_tree.specs.Trees.{Tree, Number, Variable, Element, Operation, Test, Statement, SetVariable, SetElement, Choice, Loop, Block, Nothing, Then, Source}
use Rattle.src_tree.specs.Contexts.{Context, context_of}
use Rattle.src_tree.specs.Labels.{higher, inside, label_at, label_of, label_of_test}

-- a value with the first label may flow to a variable with the second
abbrev pub Flows : Label → Label → Type 0
Flows Public to = Unit {0}
Flows Secret Public = ⊥
Flows Secret Secret = Unit {0}

-- a name is declared, with the shape with which it is used
abbrev pub UsedAs : Context → List ℕ → Shape → Type 0
UsedAs known name shape = (label : Label) × (known name ≡ Some (label, shape))

-- a scalar has no index and an array has one; the index of a public array is public
abbrev pub TypedTree : Context → Tree → Type 0
TypedTree known (Number z) = Unit {0}
TypedTree known (Variable x) = UsedAs known x Scalar
TypedTree known (Element x i) = UsedAs known x Array × (TypedTree known i × Flows (label_of known i) (label_at known x))
TypedTree known (Operation op a b) = TypedTree known a × TypedTree known b

abbrev pub TypedTest : Context → Test → Type 0
TypedTest known t = TypedTree known t.left × TypedTree known t.right

-- A statement in code with a label. An assignment to a public variable has a public value and is in public code; the
-- arms of a choice are secret code if its guard is secret, or if the choice is in secret code; a loop has a public
-- guard and is in public code.
abbrev mutual
  pub TypedStatement : Context → Label → Statement → Type 0
  TypedStatement known code (SetVariable x e) =
      UsedAs known x Scalar × (TypedTree known e × Flows (higher code (label_of known e)) (label_at known x))
  TypedStatement known code (SetElement x i e) =
      TypedTree known (Element x i) × (TypedTree known e × Flows (higher code (label_of known e)) (label_at known x))
  TypedStatement known code (Choice t a b) =
      TypedTest known t × (TypedBlock known (inside known code t) a × TypedBlock known (inside known code t) b)
  TypedStatement known code (Loop t a) =
      TypedTest known t × ((label_of_test known t ≡ Public) × ((code ≡ Public) × TypedBlock known code a))

  pub TypedBlock : Context → Label → Block → Type 0
  TypedBlock known code Nothing = Unit {0}
  TypedBlock known code (Then s rest) = TypedStatement known code s × TypedBlock known code rest

-- no declaration has the name of an earlier one
abbrev pub DeclaredOnce : List Decl → Type 0
DeclaredOnce decls = EachAfter (λ before d. context_of before d.name ≡ None) [] decls

pub record IsTyped (p : Source) : Type 0 where
  pub once : DeclaredOnce p.decls
  pub body : TypedBlock (context_of p.decls) Public p.body
