-- For the proofs and for private clauses only: a file's program made step by step, with what is still to be done on a
-- stack.
use Rattle.std.specs.Prelude.{ℕ, pos, Bool, false, ◌||◌, List, [], ◌∷◌, ◌++◌, length, reverse, Option, Some, None, if◌then◌else◌, bytes_eq, unwrap_or}
use Rattle.std.specs.Option.{option_or}
use Rattle.gr_word.specs.declared.variables.Label.{Label}
use Rattle.src_tree.specs.declared.trees.Decl.{Decl}
use Rattle.src_tree.specs.Trees.{Tree, Number, Variable, Element, Operation, Test}
use Rattle.procs_tree.specs.Trees.{Statement, SetVariable, SetElement, Block, Parameter, OfValue, OfVariable, Procedure}
use Rattle.procs_tree.specs.Frames.{naming_all, named_by, new_values, new_labels}
use Rattle.procs_tree.specs.Inlined.{Renaming, renamed, Inlined, inlined, inlined_all, inlines_of, assigned, is_hidden, new_name, no_name, kept_name}
use Rattle.procs_tree.specs.Numbered.{Found}
use Rattle.src_tree.specs.Trees as plain

-- what is still to be done: the statements that are left of a block; the caller's names count again; a block opens; a
-- choice ends with its second part, or a loop with its body
pub data Pending : Type 0 where
  Rest : (block : Block) → Pending
  Return : Pending
  Open : Pending
  EndChoice : (test : Test) → Pending
  EndLoop : (test : Test) → Pending

-- the scope of statements: the procedures before them, the last first, and what their names are in the program
pub record Scope : Type 0 where
  pub callable : List Procedure
  pub names : Renaming

-- what was made so far: the statements of the open blocks, the innermost first, and the labels of the new variables
pub record Held : Type 0 where
  pub scopes : List Scope
  pub open_blocks : List (List plain.Statement)
  pub labels : List Label

abbrev pub statements_of : plain.Block → List plain.Statement
statements_of plain.Nothing = []
statements_of (plain.Then s rest) = s ∷ statements_of rest

abbrev pub put : List plain.Statement → List (List plain.Statement) → List (List plain.Statement)
put more [] = []
put more (here ∷ outer) = (here ++ more) ∷ outer

abbrev pub opened : Held → Held
opened x = record x { open_blocks = [] ∷ x.open_blocks }

abbrev pub closed_choice : Test → List (List plain.Statement) → List (List plain.Statement)
closed_choice t [] = []
closed_choice t (second ∷ []) = []
closed_choice t (second ∷ first ∷ outer) = put (plain.Choice t (plain.block_of first) (plain.block_of second) ∷ []) outer

abbrev pub closed_loop : Test → List (List plain.Statement) → List (List plain.Statement)
closed_loop t [] = []
closed_loop t (body ∷ outer) = put (plain.Loop t (plain.block_of body) ∷ []) outer

abbrev pub end_choice : Test → Held → Held
end_choice t x = record x { open_blocks = closed_choice t x.open_blocks }

abbrev pub end_loop : Test → Held → Held
end_loop t x = record x { open_blocks = closed_loop t x.open_blocks }

-- the statements of some code, appended to what there is
abbrev pub with_made : Held → Inlined → Held
with_made x i = record x { open_blocks = put (statements_of i.block) x.open_blocks; labels = x.labels ++ i.labels }

abbrev pub in_scope : List Scope → (Scope → Held) → Held → Held
in_scope [] f x = x
in_scope (scope ∷ scopes) f x = f scope

abbrev pub expanded_one : Statement → Held → Held
expanded_one s x =
    in_scope x.scopes
    (λ scope. with_made x (inlined (inlines_of scope.callable) scope.names s (length x.labels))) x

abbrev pub expanded : Block → Held → Held
expanded b x =
    in_scope x.scopes
    (λ scope. with_made x (inlined_all (inlines_of scope.callable) scope.names b (length x.labels))) x

abbrev pub with_scope : Scope → Held → Held
with_scope scope x = record x { scopes = scope ∷ x.scopes }

abbrev pub outer_scopes : List Scope → List Scope
outer_scopes [] = []
outer_scopes (scope ∷ scopes) = scopes

abbrev pub returned : Held → Held
returned x = record x { scopes = outer_scopes x.scopes }

-- a call of a procedure begins, from some names
abbrev pub begun : Procedure → List Procedure → Renaming → List Tree → Held → Held
begun p earlier caller arguments x =
    record x {
      scopes =
          record {
            callable = earlier;
            names = naming_all new_name no_name caller (length x.labels) p.parameters arguments p.locals;
          } ∷ x.scopes;
      open_blocks =
          put (statements_of (assigned caller (length x.labels) (new_values p.parameters arguments p.locals)))
          x.open_blocks;
      labels = x.labels ++ new_labels p.parameters arguments p.locals;
    }

-- the statement of the program for an assignment
abbrev pub plain_statement : Renaming → Statement → Option plain.Statement
plain_statement to (SetVariable x e) = Some (plain.SetVariable (to x) (renamed to e))
plain_statement to (SetElement x i e) = Some (plain.SetElement (to x) (renamed to i) (renamed to e))
plain_statement to _ = None

abbrev pub put_where : Option plain.Statement → Held → Held
put_where None x = x
put_where (Some s) x = record x { open_blocks = put (s ∷ []) x.open_blocks }

-- a single assignment
abbrev pub assigned_one : Statement → Held → Held
assigned_one s x = in_scope x.scopes (λ scope. put_where (plain_statement scope.names s) x) x

-- what there is once all is done
abbrev pub finished : List Pending → Held → Held
finished [] x = x
finished (Rest b ∷ more) x = finished more (expanded b x)
finished (Return ∷ more) x = finished more (returned x)
finished (Open ∷ more) x = finished more (opened x)
finished (EndChoice t ∷ more) x = finished more (end_choice t x)
finished (EndLoop t ∷ more) x = finished more (end_loop t x)

-- a call of a name begins, if there is one
abbrev pub begun_where : Option Found → Renaming → List Tree → Held → Held
begun_where None caller arguments x = x
begun_where (Some f) caller arguments x = begun f.procedure f.earlier caller arguments x

-- what names are bound to
abbrev pub Bound : Type 0
Bound = List ℕ → Option (List ℕ)

abbrev pub nothing_bound : Bound
nothing_bound y = None

-- one more name, unless it is bound already
abbrev pub bound_after : Bound → List ℕ → List ℕ → Bound
bound_after bound name stands y = option_or (bound y) (if bytes_eq y name then Some stands else None)

-- what a call's names are so far, and what was appended: the names, the open blocks and the labels
pub record Binding : Type 0 where
  pub bound : Bound
  pub open_blocks : List (List plain.Statement)
  pub labels : List Label

-- a new variable for a name, with a statement that assigns to it
abbrev pub with_variable : Binding → Label → List ℕ → List ℕ → plain.Statement → Binding
with_variable b label name stands s = record {
  bound = bound_after b.bound name stands;
  open_blocks = put (s ∷ []) b.open_blocks;
  labels = b.labels ++ label ∷ [];
}

-- a new variable of a value
abbrev pub with_new : Binding → Label → List ℕ → Tree → Binding
with_new b label name value =
    with_variable b label name (new_name (length b.labels)) (plain.SetVariable (new_name (length b.labels)) value)

abbrev pub with_alias : Binding → List ℕ → List ℕ → Binding
with_alias b name other = record b { bound = bound_after b.bound name other }

abbrev pub with_locals : Binding → List Decl → Binding
with_locals b [] = b
with_locals b (d ∷ ds) = with_locals (with_new b d.label d.name (Number (pos 0))) ds

abbrev pub with_parameter : Renaming → Binding → Parameter → Tree → Binding
with_parameter caller b (OfValue label name) e = with_new b label name (renamed caller e)
with_parameter caller b (OfVariable name) e = with_alias b name (named_by no_name caller e)

abbrev pub with_parameters : Renaming → Binding → List Parameter → List Tree → Binding
with_parameters caller b [] es = b
with_parameters caller b (p ∷ ps) [] = b
with_parameters caller b (p ∷ ps) (e ∷ es) = with_parameters caller (with_parameter caller b p e) ps es

-- a name in an expression begins with `__`
abbrev pub has_hidden : Tree → Bool
has_hidden (Number z) = false
has_hidden (Variable x) = is_hidden x
has_hidden (Element x i) = is_hidden x || has_hidden i
has_hidden (Operation op a b) = has_hidden a || has_hidden b

abbrev pub looked_up : Bound → Renaming
looked_up bound y = unwrap_or (bound y) no_name

-- before the first statement of a file with these procedures
abbrev pub held_start : List Procedure → Held
held_start ps = record {
  scopes = record { callable = reverse ps; names = kept_name } ∷ [];
  open_blocks = [] ∷ [];
  labels = [];
}

abbrev pub first_block : List (List plain.Statement) → List plain.Statement
first_block [] = []
first_block (here ∷ outer) = here
