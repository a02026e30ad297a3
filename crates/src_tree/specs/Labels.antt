-- Labels of expressions: an expression is secret if a secret variable or an element of a secret array is in it (the
-- security labels of GhostRider, ASPLOS 2015).
use Rattle.std.specs.Prelude.{ℕ, List, Option, Some, None, Bool, true, false}
use Rattle.gr_word.specs.declared.variables.Label.{Label}
use Rattle.gr_word.specs.declared.variables.Label.TheVariants.{Public, Secret}
use Rattle.gr_word.specs.declared.variables.Shape.{Shape}
use Rattle.src_tree.specs.Trees.{Tree, Number, Variable, Element, Operation, Test}
use Rattle.src_tree.specs.Contexts.{Context}

-- secret if one of two is
abbrev pub higher : Label → Label → Label
higher Public b = b
higher Secret b = Secret

abbrev pub label_or_public : Option (Label × Shape) → Label
label_or_public None = Public
label_or_public (Some kind) = kind.0

-- the label of a name, or public if it isn't declared
-- why: so labels and weights are defined for every tree; typing rejects such a program.
abbrev pub label_at : Context → List ℕ → Label
label_at known name = label_or_public (known name)

abbrev pub label_of : Context → Tree → Label
label_of known (Number z) = Public
label_of known (Variable x) = label_at known x
label_of known (Element x i) = higher (label_at known x) (label_of known i)
label_of known (Operation op a b) = higher (label_of known a) (label_of known b)

-- the label of a guard
abbrev pub label_of_test : Context → Test → Label
label_of_test known t = higher (label_of known t.left) (label_of known t.right)

-- the label of the arms of a choice that is in code with a label
abbrev pub inside : Context → Label → Test → Label
inside known code t = higher code (label_of_test known t)

abbrev pub secret_label : Label → Bool
secret_label Public = false
secret_label Secret = true
