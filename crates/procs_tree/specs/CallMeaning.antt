-- The meaning of a file with procedures. A call evaluates its scalar arguments in the caller's variables, and runs the
-- procedure's statements with these values as its parameters and with locals that are 0; each array parameter is
-- another name of the caller's variable that its argument names. While the call runs, its own variables follow the
-- others in the store; afterwards they are removed. Every tree has a meaning: a name that refers to nothing reads 0,
-- and writing it changes nothing; a call of an unknown procedure does nothing.
use Rattle.std.specs.Prelude.{ℕ, ◌+◌, ℤ, pos, Bool, if◌then◌else◌, List, [], ◌∷◌, ◌++◌, length, take, map, reverse, bytes_eq, Option, Some, None}
use Rattle.std.specs.Option.{option_map}
use Rattle.gr_word.specs.Words.{applied, compared}
use Rattle.src_tree.specs.declared.trees.Decl.{Decl}
use Rattle.src_tree.specs.Trees.{Tree, Number, Variable, Element, Operation, Test}
use Rattle.src_tree.specs.Meaning.{Store, Left, Execution, scalar, element, scalar_set, element_set, in_turn, loop}
use Rattle.procs_tree.specs.Trees.{Statement, SetVariable, SetElement, Choice, Loop, Call, Block, Nothing, Then, Procedure, File}
use Rattle.procs_tree.specs.Frames.{naming_all, new_values}

-- the number of the variable that each name refers to, if there is one
abbrev pub Names : Type 0
Names = List ℕ → Option ℕ

-- the names of a file's declarations
abbrev pub declared_names : List Decl → Names
declared_names [] name = None
declared_names (d ∷ ds) name = if bytes_eq name d.name then Some 0 else option_map (λ k. 1 + k) (declared_names ds name)

-- why: so a file's meaning is defined for every tree; `inline` rejects such a file.
abbrev pub scalar_of : Store → Option ℕ → ℤ
scalar_of store None = pos 0
scalar_of store (Some k) = scalar store k

abbrev pub element_of : Store → Option ℕ → ℤ → ℤ
element_of store None index = pos 0
element_of store (Some k) index = element store k index

abbrev pub with_scalar : Store → Option ℕ → ℤ → Store
with_scalar store None value = store
with_scalar store (Some k) value = scalar_set store k value

abbrev pub with_element : Store → Option ℕ → ℤ → ℤ → Store
with_element store None index value = store
with_element store (Some k) index value = element_set store k index value

abbrev pub valued : Names → Store → Tree → ℤ
valued names store (Number z) = z
valued names store (Variable x) = scalar_of store (names x)
valued names store (Element x i) = element_of store (names x) (valued names store i)
valued names store (Operation op a b) = applied op (valued names store a) (valued names store b)

abbrev pub passes : Names → Test → Store → Bool
passes names t store = compared t.cmp (valued names store t.left) (valued names store t.right)

-- what a call of a name does, given what the caller's names refer to and the arguments
abbrev pub RunsOfCalls : Type 0
RunsOfCalls = List ℕ → Names → List Tree → Execution

abbrev mutual
  pub does : RunsOfCalls → Names → Statement → Execution
  does calls names (SetVariable x e) before =
      Some (record before { store = with_scalar before.store (names x) (valued names before.store e) })
  does calls names (SetElement x i e) before =
      Some
      (record before {
        store = with_element before.store (names x) (valued names before.store i) (valued names before.store e);
      })
  does calls names (Choice t a b) before =
      if passes names t before.store then does_all calls names a before else does_all calls names b before
  does calls names (Loop t a) before = loop (passes names t) (does_all calls names a) before
  does calls names (Call name arguments) before = calls name names arguments before

  pub does_all : RunsOfCalls → Names → Block → Execution
  does_all calls names Nothing before = Some before
  does_all calls names (Then s rest) before = in_turn (does calls names s) (does_all calls names rest) before

-- only the variables of the caller
abbrev pub of_caller : ℕ → Left → Left
of_caller count after = record after { store = take count after.store }

abbrev pub one_word : Names → Store → Tree → List ℤ
one_word caller store e = valued caller store e ∷ []

-- a call of a procedure, by the calls that it makes itself
abbrev pub called : RunsOfCalls → Procedure → Names → List Tree → Execution
called calls p caller arguments before =
    option_map (of_caller (length before.store))
    (does_all calls
    (naming_all (λ k. Some k) None caller (length before.store) p.parameters arguments p.locals) p.body
    (record before {
      store = before.store ++ map (one_word caller before.store) (new_values p.parameters arguments p.locals);
    }))

-- calls of these procedures, the last first: each calls only those before it
abbrev pub calls_of : List Procedure → RunsOfCalls
calls_of [] name caller arguments before = Some before
calls_of (p ∷ earlier) name caller arguments before =
    if bytes_eq name p.name then called (calls_of earlier) p caller arguments before
    else calls_of earlier name caller arguments before

-- what the file's own variables hold at its end, none if it is spent
abbrev pub call_meaning : File → Store → ℕ → Option Store
call_meaning f store turns =
    option_map (λ left. left.store)
    (does_all (calls_of (reverse f.procedures)) (declared_names f.decls) f.body
    (record { store = store; turns = turns }))
