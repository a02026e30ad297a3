-- What a program's names are declared as: the label and the shape of each (a typing context, as in Volpano, Smith and
-- Irvine, A sound type system for secure flow analysis, 1996).
use Rattle.std.specs.Prelude.{ℕ, List, [], ◌∷◌, Option, Some, None, if◌then◌else◌, bytes_eq}
use Rattle.gr_word.specs.declared.variables.Label.{Label}
use Rattle.gr_word.specs.declared.variables.Shape.{Shape}
use Rattle.gr_word.specs.declared.variables.Shape.TheVariants.{Scalar, Array}
use Rattle.src_tree.specs.declared.trees.Decl.{Decl}

abbrev pub Context : Type 0
Context = List ℕ → Option (Label × Shape)

-- an array has a length, a scalar has none
abbrev pub shape_of : Option ℕ → Shape
shape_of None = Scalar
shape_of (Some n) = Array

abbrev pub label_and_shape : Decl → Label × Shape
label_and_shape d = (d.label, shape_of d.length)

-- a name is what its first declaration says
abbrev pub context_of : List Decl → Context
context_of [] name = None
context_of (d ∷ ds) name = if bytes_eq name d.name then Some (label_and_shape d) else context_of ds name
