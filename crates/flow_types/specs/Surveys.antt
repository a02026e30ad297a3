-- For the proofs and for private clauses only: whether any statement of a block has an error of typing or an expression
-- that is too high, found with its weight in one walk. Which error comes first isn't decided here.
use Rattle.std.specs.Prelude.{Bool, true, false, not, ◌||◌, Option, Some, None}
use Rattle.gr_word.specs.declared.variables.Label.{Label}
use Rattle.gr_word.specs.declared.variables.Shape.{Shape}
use Rattle.gr_word.specs.declared.variables.Shape.TheVariants.{Scalar, Array}
use Rattle.src_tree.specs.Trees.{Tree, Number, Variable, Element, Operation, Test, Statement, SetVariable, SetElement, Choice, Loop, Block, Nothing, Then}
use Rattle.src_tree.specs.Contexts.{Context}
use Rattle.src_tree.specs.Labels.{higher, inside, secret_label, label_at, label_of, label_of_test}
use Rattle.src_tree.specs.FirstFault.{same_shape, leaks, too_high}

-- a name that was declared so, or wasn't declared, isn't a variable of a shape
abbrev pub has_other_shape : Shape → Option (Label × Shape) → Bool
has_other_shape shape None = true
has_other_shape shape (Some kind) = not (same_shape kind.1 shape)

-- a name in an expression has another shape, or a public array has a secret index
abbrev pub is_wrong : Context → Tree → Bool
is_wrong known (Number z) = false
is_wrong known (Variable x) = has_other_shape Scalar (known x)
is_wrong known (Element x i) =
    (has_other_shape Array (known x) || is_wrong known i) || leaks (label_of known i) (label_at known x)
is_wrong known (Operation op a b) = is_wrong known a || is_wrong known b

-- an expression is wrong or too high
abbrev pub is_faulty : Context → Tree → Bool
is_faulty known e = is_wrong known e || too_high e

abbrev pub is_faulty_test : Context → Test → Bool
is_faulty_test known t = is_faulty known t.left || is_faulty known t.right

-- a statement in code with a label has an error, or a statement in its blocks has one
abbrev mutual
  pub is_faulty_statement : Context → Label → Statement → Bool
  is_faulty_statement known code (SetVariable x e) =
      (has_other_shape Scalar (known x) || is_faulty known e)
      || leaks (higher code (label_of known e)) (label_at known x)
  is_faulty_statement known code (SetElement x i e) =
      ((is_wrong known (Element x i) || too_high i) || is_faulty known e)
      || leaks (higher code (label_of known e)) (label_at known x)
  is_faulty_statement known code (Choice t a b) =
      (is_faulty_test known t || is_faulty_block known (inside known code t) a)
      || is_faulty_block known (inside known code t) b
  is_faulty_statement known code (Loop t a) =
      ((is_faulty_test known t || secret_label (label_of_test known t)) || secret_label code)
      || is_faulty_block known code a

  pub is_faulty_block : Context → Label → Block → Bool
  is_faulty_block known code Nothing = false
  is_faulty_block known code (Then s rest) = is_faulty_statement known code s || is_faulty_block known code rest
