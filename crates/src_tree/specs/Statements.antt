-- The statements of a program in the order of their first tokens, each with the label of the code that it is in: the
-- arms of a choice are secret code if its guard is secret, or if the choice is in secret code. A statement's number is
-- its place in this list, from 0. (This project's profile.)
use Rattle.std.specs.Prelude.{List, [], ◌∷◌, ◌++◌}
use Rattle.std.specs.List.{Contains}
use Rattle.gr_word.specs.declared.variables.Label.{Label}
use Rattle.gr_word.specs.declared.variables.Label.TheVariants.{Public}
use Rattle.src_tree.specs.Trees.{Statement, SetVariable, SetElement, Choice, Loop, Block, Nothing, Then, Source}
use Rattle.src_tree.specs.Contexts.{Context, context_of}
use Rattle.src_tree.specs.Labels.{inside}

abbrev mutual
  pub with_parts : Context → Label → Statement → List (Label × Statement)
  with_parts known code (SetVariable x e) = (code, SetVariable x e) ∷ []
  with_parts known code (SetElement x i e) = (code, SetElement x i e) ∷ []
  with_parts known code (Choice t a b) =
      (code, Choice t a b) ∷ (in_order known (inside known code t) a ++ in_order known (inside known code t) b)
  with_parts known code (Loop t a) = (code, Loop t a) ∷ in_order known code a

  pub in_order : Context → Label → Block → List (Label × Statement)
  in_order known code Nothing = []
  in_order known code (Then s rest) = with_parts known code s ++ in_order known code rest

-- a statement of a program, in code with a label
abbrev pub StandsIn : Source → Label → Statement → Type 0
StandsIn p code s = Contains (in_order (context_of p.decls) Public p.body) (code, s)
