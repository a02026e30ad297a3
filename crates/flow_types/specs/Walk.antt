-- For the proofs and for private clauses only: one walk over the declarations and one over the statements, which passes
-- on the number of the next one.
use Rattle.std.specs.Prelude.{◌≡◌, ℕ, ◌+◌, List, [], ◌∷◌, Option, Some, None, Result, Ok, Err, is_some, bytes_eq, if◌then◌else◌}
use Rattle.std.specs.Option.{option_or}
use Rattle.gr_base.specs.Results.{◌>>=◌}
use Rattle.gr_word.specs.declared.variables.Label.{Label}
use Rattle.gr_word.specs.declared.variables.Label.TheVariants.{Public}
use Rattle.gr_word.specs.declared.variables.Shape.{Shape}
use Rattle.src_tree.specs.declared.trees.Decl.{Decl}
use Rattle.src_tree.specs.Trees.{Statement, SetVariable, SetElement, Choice, Loop, Block, Nothing, Then, Source}
use Rattle.src_tree.specs.declared.faults.TypeError.{TypeError}
use Rattle.src_tree.specs.declared.faults.TypeError.TheVariants.{TwiceDeclared, Memory}
use Rattle.flow_types.specs.declared.walks.Question.{Question}
use Rattle.src_tree.specs.Contexts.{Context, label_and_shape}
use Rattle.src_tree.specs.Labels.{inside}
use Rattle.src_tree.specs.FirstFault.{StatementFault, shown_place, shown_number, typing_fault, height_fault, variables_fault, length_fault, words_fault, weight_fault}
use Rattle.flow_types.specs.declared.walks.Question.TheVariants as question

abbrev pub nothing_known : Context
nothing_known name = None

abbrev pub with_name : Context → List ℕ → Label × Shape → Context
with_name known x kind name = if bytes_eq x name then Some kind else known name

-- the names of declarations that are numbered from n on, or the error of the first name that is known already
abbrev pub names_gathered : Context → ℕ → List Decl → Result Context TypeError
names_gathered known n [] = Ok known
names_gathered known n (d ∷ ds) =
    if is_some (known d.name) then Err (TwiceDeclared (shown_place n))
    else names_gathered (with_name known d.name (label_and_shape d))
    (n + 1) ds

-- an error is the one that reading the declarations met, or out of memory
abbrev pub IsRefusal : TypeError → Result Context TypeError → Type 0
IsRefusal Memory r = Unit {0}
IsRefusal e r = r ≡ Err e

-- the error for which each statement is tested
abbrev pub cause_of : Question → Context → StatementFault
cause_of question.IsTyped known = typing_fault known
cause_of question.IsLow known = height_fault

-- the number of the next statement, or an error
abbrev pub finish : Option TypeError → ℕ → Result ℕ TypeError
finish None n = Ok (shown_number n)
finish (Some e) n = Err e

abbrev mutual
  pub walk_statement : Context → StatementFault → Label → ℕ → Statement → Result ℕ TypeError
  walk_statement known fault code n (SetVariable x e) = finish (fault code n (SetVariable x e)) (n + 1)
  walk_statement known fault code n (SetElement x i e) = finish (fault code n (SetElement x i e)) (n + 1)
  walk_statement known fault code n (Choice t a b) =
      finish (fault code n (Choice t a b)) (n + 1) >>= λ m. walk_block known fault
      (inside known code t) m a >>= λ k. walk_block known fault (inside known code t) k b
  walk_statement known fault code n (Loop t a) =
      finish (fault code n (Loop t a)) (n + 1) >>= λ m. walk_block known fault code m a

  pub walk_block : Context → StatementFault → Label → ℕ → Block → Result ℕ TypeError
  walk_block known fault code n Nothing = Ok n
  walk_block known fault code n (Then s rest) =
      walk_statement known fault code n s >>= λ m. walk_block known fault code m rest

-- the error that a walk met, if it met one
abbrev pub fault_of : Result ℕ TypeError → Option TypeError
fault_of (Ok n) = None
fault_of (Err e) = Some e

-- the first error of the limits on declarations
abbrev pub sizes_fault : Source → Option TypeError
sizes_fault p = option_or (variables_fault p.decls) (option_or (length_fault 0 p.decls) (words_fault 0 0 p.decls))

-- the first error of a program with these names and this weight
abbrev pub found : Context → ℕ → Source → Option TypeError
found known weight p =
    option_or (fault_of (walk_block known (typing_fault known) Public 0 p.body))
    (option_or (sizes_fault p)
    (option_or (fault_of (walk_block known height_fault Public 0 p.body)) (weight_fault weight)))
