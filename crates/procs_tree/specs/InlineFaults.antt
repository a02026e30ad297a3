-- For proofs, and for contracts of private functions: the fault of CallCauses.antt as it is computed. Procedure by
-- procedure, in their order: a name that is declared twice, then a variable that isn't the procedure's own. Then call by
-- call, in the order of their first tokens: no procedure of that name is declared before it, the number of arguments
-- differs, an array's argument isn't a bare name. Last, the number of statements of the program without calls.
use Rattle.std.specs.Prelude.{◌≡◌, ℕ, ◌+◌, ◌==◌, ◌&&◌, ◌||◌, nat_lt, Bool, true, false, not, List, [], ◌∷◌, length, reverse, bytes_eq, if◌then◌else◌, Option, Some, None, is_some, Result, Ok, Err}
use Rattle.std.specs.Option.{option_or}
use Rattle.gr_base.specs.Results.{◌>>=◌}
use Rattle.src_tree.specs.declared.trees.Decl.{Decl}
use Rattle.src_tree.specs.FirstFault.{shown_place}
use Rattle.src_tree.specs.Trees.{Tree, Number, Variable, Element, Operation}
use Rattle.procs_tree.specs.declared.errors.InlineError.{InlineError}
use Rattle.procs_tree.specs.declared.errors.InlineError.TheVariants.{TwiceNamed, Undeclared, NoProcedure, WrongCount, NotAnArray, TooLarge, Memory}
use Rattle.procs_tree.specs.Trees.{Statement, SetVariable, SetElement, Choice, Loop, Call, Block, Nothing, Then, Parameter, OfValue, OfVariable, Procedure, File}
use Rattle.procs_tree.specs.CallMeaning.{Names}
use Rattle.procs_tree.specs.CallCauses.{own_names, max_statements}
use Rattle.procs_tree.specs.Inlined.{inlined_file}
use Rattle.procs_tree.specs.Sizes.{statements_in}

-- a fault where a test holds
abbrev pub fault_where : Bool → InlineError → Option InlineError
fault_where true e = Some e
fault_where false e = None

abbrev pub none_named : Names
none_named name = None

-- a name gets a number
abbrev pub numbered : Names → List ℕ → ℕ → Names
numbered known x n name = if bytes_eq x name then Some n else known name

-- names that get the numbers from n on, where each is new
abbrev pub numbered_all : Names → ℕ → List (List ℕ) → Option Names
numbered_all known n [] = Some known
numbered_all known n (x ∷ xs) = if is_some (known x) then None else numbered_all (numbered known x n) (n + 1) xs

abbrev pub local_name : Decl → List ℕ
local_name d = d.name

-- every variable of an expression, of statements, has a known name
abbrev pub knows : Names → Tree → Bool
knows known (Number z) = true
knows known (Variable x) = is_some (known x)
knows known (Element x i) = is_some (known x) && knows known i
knows known (Operation op a b) = knows known a && knows known b

abbrev pub knows_each : Names → List Tree → Bool
knows_each known [] = true
knows_each known (e ∷ es) = knows known e && knows_each known es

abbrev mutual
  pub knows_statement : Names → Statement → Bool
  knows_statement known (SetVariable x e) = is_some (known x) && knows known e
  knows_statement known (SetElement x i e) = is_some (known x) && knows known i && knows known e
  knows_statement known (Choice t a b) =
      knows known t.left && knows known t.right && knows_block known a && knows_block known b
  knows_statement known (Loop t a) = knows known t.left && knows known t.right && knows_block known a
  knows_statement known (Call name arguments) = knows_each known arguments

  pub knows_block : Names → Block → Bool
  knows_block known Nothing = true
  knows_block known (Then s rest) = knows_statement known s && knows_block known rest

-- the fault of the names of procedure n, by its own names, numbered if each is declared once
abbrev pub body_fault : ℕ → Option Names → Block → Option InlineError
body_fault n None body = Some (TwiceNamed (shown_place n))
body_fault n (Some own) body = fault_where (not (knows_block own body)) (Undeclared (shown_place n))

-- the first fault of procedures, from number n on, after those whose names are known
abbrev pub procedures_fault : Names → ℕ → List Procedure → Option InlineError
procedures_fault known n [] = None
procedures_fault known n (p ∷ ps) =
    option_or (fault_where (is_some (known p.name)) (TwiceNamed (shown_place n)))
    (option_or (body_fault n (numbered_all none_named 0 (own_names p)) p.body)
    (procedures_fault (numbered known p.name n) (n + 1) ps))

-- the procedure that a name calls, of these, the last first
abbrev pub procedure_named : List Procedure → List ℕ → Option Procedure
procedure_named [] name = None
procedure_named (p ∷ earlier) name = if bytes_eq name p.name then Some p else procedure_named earlier name

abbrev pub is_bare : Tree → Bool
is_bare (Variable x) = true
is_bare _ = false

abbrev pub names_variable : Parameter → Bool
names_variable (OfValue label name) = false
names_variable (OfVariable name) = true

-- an array's argument isn't a bare name
abbrev pub lacks_name : List Parameter → List Tree → Bool
lacks_name [] es = false
lacks_name (p ∷ ps) [] = false
lacks_name (p ∷ ps) (e ∷ es) = (names_variable p && not (is_bare e)) || lacks_name ps es

-- what is wrong with the arguments of call n
abbrev pub arguments_fault : ℕ → List Tree → List Parameter → Option InlineError
arguments_fault n es ps =
    option_or (fault_where (not (length es == length ps)) (WrongCount n))
    (fault_where (lacks_name ps es) (NotAnArray n))

-- what is wrong with call n, by its arguments and the procedure that it calls
abbrev pub call_fault : ℕ → List Tree → Option Procedure → Option InlineError
call_fault n es None = Some (NoProcedure n)
call_fault n es (Some p) = arguments_fault n es p.parameters

-- the number of the next call, or a fault of this one
abbrev pub next_call : ℕ → Option InlineError → Result ℕ InlineError
next_call n None = Ok (shown_place (n + 1))
next_call n (Some e) = Err e

-- the procedures that names call
abbrev pub Called : Type 0
Called = List ℕ → Option Procedure

-- the number of the call after these, of which the first has number n, or their first fault
abbrev mutual
  pub calls_walked : Called → ℕ → Statement → Result ℕ InlineError
  calls_walked called n (SetVariable x e) = Ok n
  calls_walked called n (SetElement x i e) = Ok n
  calls_walked called n (Choice t a b) = calls_walked_all called n a >>= λ m. calls_walked_all called m b
  calls_walked called n (Loop t a) = calls_walked_all called n a
  calls_walked called n (Call name es) = next_call n (call_fault n es (called name))

  pub calls_walked_all : Called → ℕ → Block → Result ℕ InlineError
  calls_walked_all called n Nothing = Ok n
  calls_walked_all called n (Then s rest) = calls_walked called n s >>= λ m. calls_walked_all called m rest

-- the calls of procedures, after the earlier ones, the last of which comes first
abbrev pub procedures_walked : List Procedure → ℕ → List Procedure → Result ℕ InlineError
procedures_walked earlier n [] = Ok n
procedures_walked earlier n (p ∷ ps) =
    calls_walked_all (procedure_named earlier) n p.body >>= λ m. procedures_walked (p ∷ earlier) m ps

abbrev pub fault_met : Result ℕ InlineError → Option InlineError
fault_met (Ok n) = None
fault_met (Err e) = Some e

-- all calls, those of the procedures first
abbrev pub file_walked : List Procedure → Block → Result ℕ InlineError
file_walked ps body = procedures_walked [] 0 ps >>= λ n. calls_walked_all (procedure_named (reverse ps)) n body

abbrev pub calls_fault : File → Option InlineError
calls_fault f = fault_met (file_walked f.procedures f.body)

abbrev pub inline_fault : File → Option InlineError
inline_fault f =
    option_or (procedures_fault none_named 0 f.procedures)
    (option_or (calls_fault f)
    (fault_where (nat_lt max_statements (statements_in (inlined_file f).body)) TooLarge))

-- it is the file's first fault, as it is computed; running out of memory says nothing about it
abbrev pub IsFoundFault : InlineError → File → Type 0
IsFoundFault Memory f = Unit {0}
IsFoundFault e f = inline_fault f ≡ Some e
