-- The first fault of a file's procedures and calls as a relation: what is wrong, which procedure or call has the fault,
-- and what comes before it and isn't wrong (this project's profile). InlineFaults.antt computes the same fault.
use Rattle.std.specs.Prelude.{◌≡◌, ℕ, ◌<◌, List, [], ◌∷◌, ◌++◌, map, length, Contains}
use Rattle.std.specs.List.{flat_map, zip}
use Rattle.gr_base.specs.Lists.{EachAfter}
use Rattle.src_tree.specs.declared.trees.Decl.{Decl}
use Rattle.src_tree.specs.FirstFault.{shown_place}
use Rattle.src_tree.specs.Trees.{Tree, Number, Variable, Element, Operation}
use Rattle.procs_tree.specs.declared.errors.InlineError.{InlineError}
use Rattle.procs_tree.specs.declared.errors.InlineError.TheVariants.{TwiceNamed, Undeclared, NoProcedure, WrongCount, NotAnArray, TooLarge, Memory}
use Rattle.procs_tree.specs.Trees.{Statement, SetVariable, SetElement, Choice, Loop, Call, Block, Nothing, Then, Parameter, OfValue, OfVariable, Procedure, File}
use Rattle.procs_tree.specs.Inlined.{inlined_file}
use Rattle.procs_tree.specs.Sizes.{statements_in}

-- no item has a fault, which may depend on the items before it
abbrev pub HaveNone : {X : Type 0} → (List X → X → InlineError → Type 0) → List X → Type 0
HaveNone Fault items = EachAfter (λ before x. (e : InlineError) → Fault before x e → ⊥) [] items

-- e is the fault of the first item that has one
pub record IsFirst {X : Type 0} (Fault : List X → X → InlineError → Type 0) (items : List X) (e : InlineError)
    : Type 0 where
  pub before : List X
  pub item : X
  pub behind : List X
  pub parts : items ≡ before ++ item ∷ behind
  pub faulty : Fault before item e
  pub none_before : HaveNone Fault before

abbrev pub parameter_name : Parameter → List ℕ
parameter_name (OfValue label name) = name
parameter_name (OfVariable name) = name

-- the names of a procedure's parameters and locals
abbrev pub own_names : Procedure → List (List ℕ)
own_names p = map parameter_name p.parameters ++ map (λ (d : Decl). d.name) p.locals

-- the variables that an expression, or statements, name
abbrev pub names_in : Tree → List (List ℕ)
names_in (Number z) = []
names_in (Variable x) = x ∷ []
names_in (Element x i) = x ∷ names_in i
names_in (Operation op a b) = names_in a ++ names_in b

abbrev mutual
  pub names_in_statement : Statement → List (List ℕ)
  names_in_statement (SetVariable x e) = x ∷ names_in e
  names_in_statement (SetElement x i e) = x ∷ names_in i ++ names_in e
  names_in_statement (Choice t a b) = names_in t.left ++ names_in t.right ++ names_in_block a ++ names_in_block b
  names_in_statement (Loop t a) = names_in t.left ++ names_in t.right ++ names_in_block a
  names_in_statement (Call name arguments) = flat_map names_in arguments

  pub names_in_block : Block → List (List ℕ)
  names_in_block Nothing = []
  names_in_block (Then s rest) = names_in_statement s ++ names_in_block rest

-- a procedure has the name of an earlier one, or two of its parameters and locals have one name
-- Rule: procs/twice.
pub data IsNamedAgain (before : List Procedure) (p : Procedure) : Type 0 where
  AsEarlier : Contains (map (λ (q : Procedure). q.name) before) p.name → IsNamedAgain before p
  OwnTwice : (front : List (List ℕ)) (x : List ℕ) (back : List (List ℕ)) → own_names p ≡ front ++ x ∷ back
      → Contains front x → IsNamedAgain before p

-- The fault of a procedure: a name that is declared again; otherwise a variable in its statements that isn't its own.
-- The fault has the procedure's number.
-- Rule: procs/undeclared.
pub data ProcedureFault (before : List Procedure) (p : Procedure) : InlineError → Type 0 where
  RepeatsName : IsNamedAgain before p → ProcedureFault before p (TwiceNamed (shown_place (length before)))
  UsesOther : (IsNamedAgain before p → ⊥) → (x : List ℕ) → Contains (names_in_block p.body) x
      → (Contains (own_names p) x → ⊥) → ProcedureFault before p (Undeclared (shown_place (length before)))

-- a call, and the procedures that are declared before it
pub record FoundCall : Type 0 where
  pub declared : List Procedure
  pub name : List ℕ
  pub arguments : List Tree

-- the calls in a statement, in a block, and in procedures and then a file's statements, in the order of first tokens
abbrev mutual
  pub calls_in_statement : List Procedure → Statement → List FoundCall
  calls_in_statement declared (SetVariable x e) = []
  calls_in_statement declared (SetElement x i e) = []
  calls_in_statement declared (Choice t a b) = calls_in declared a ++ calls_in declared b
  calls_in_statement declared (Loop t a) = calls_in declared a
  calls_in_statement declared (Call name arguments) =
      record { declared = declared; name = name; arguments = arguments } ∷ []

  pub calls_in : List Procedure → Block → List FoundCall
  calls_in declared Nothing = []
  calls_in declared (Then s rest) = calls_in_statement declared s ++ calls_in declared rest

abbrev pub calls_after : List Procedure → List Procedure → Block → List FoundCall
calls_after declared [] body = calls_in declared body
calls_after declared (p ∷ ps) body = calls_in declared p.body ++ calls_after (declared ++ p ∷ []) ps body

-- a procedure that is declared before a call has the call's name
abbrev pub Calls : FoundCall → Procedure → Type 0
Calls c p = Contains c.declared p × (p.name ≡ c.name)

-- The fault of a call: no procedure of its name; otherwise another number of arguments than of parameters; otherwise
-- an argument for an array that isn't a bare name. The fault has the call's number.
-- Rules: procs/unknown, procs/count, procs/array.
pub data CallFault (before : List FoundCall) (c : FoundCall) : InlineError → Type 0 where
  CallsNone : ((p : Procedure) → Calls c p → ⊥) → CallFault before c (NoProcedure (shown_place (length before)))
  CountDiffers : (p : Procedure) → Calls c p → (length c.arguments ≡ length p.parameters → ⊥)
      → CallFault before c (WrongCount (shown_place (length before)))
  PassesOther : (p : Procedure) → Calls c p → length c.arguments ≡ length p.parameters → (x : List ℕ) (e : Tree)
      → Contains (zip p.parameters c.arguments) (OfVariable x, e) → ((y : List ℕ) → e ≡ Variable y → ⊥)
      → CallFault before c (NotAnArray (shown_place (length before)))

-- the most statements of a program without calls
-- Rule: procs/large.
abbrev pub max_statements : ℕ
max_statements = 8192

-- A file's first fault: that of the first procedure with one; otherwise that of the first call with one; otherwise its
-- program without calls has too many statements.
pub data IsFirstCallFault (f : File) : InlineError → Type 0 where
  InProcedure : (e : InlineError) → IsFirst ProcedureFault f.procedures e → IsFirstCallFault f e
  InCall : HaveNone ProcedureFault f.procedures → (e : InlineError)
      → IsFirst CallFault (calls_after [] f.procedures f.body) e → IsFirstCallFault f e
  TooMany : HaveNone ProcedureFault f.procedures → HaveNone CallFault (calls_after [] f.procedures f.body)
      → max_statements < statements_in (inlined_file f).body → IsFirstCallFault f TooLarge

-- it is the file's first fault; running out of memory says nothing about it
abbrev pub ExplainsInlining : InlineError → File → Type 0
ExplainsInlining Memory f = Unit {0}
ExplainsInlining e f = IsFirstCallFault f e
