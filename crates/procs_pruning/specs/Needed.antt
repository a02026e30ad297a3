-- For private clauses only: the names that a procedure's statements need, once the calls that add nothing are taken out,
-- and the parameters that a call of it binds.
use Rattle.std.specs.Prelude.{◌≡◌, ℕ, ◌+◌, Bool, true, List, [], ◌∷◌, length, drop, slice_index_or, if◌then◌else◌, Option, Some, None, is_some}
use Rattle.src_tree.specs.Trees.{Tree, Number, Variable, Element, Operation}
use Rattle.procs_tree.specs.Trees.{Statement, SetVariable, SetElement, Choice, Loop, Call, Block, Nothing, Then, Parameter, OfValue, OfVariable}
use Rattle.procs_tree.specs.CallMeaning.{Names}
use Rattle.procs_tree.specs.Numbered.{Found}
use Rattle.procs_tree.specs.InlineFaults.{none_named, numbered}
use Rattle.procs_tree.specs.Inlined.{Renaming, Inlines, inlined_all}

-- a parameter and its place
abbrev pub Placed : Type 0
Placed = ℕ × Parameter

-- what is left of a procedure: its statements, the names that they need, and the parameters that a call binds
pub record LiveBody : Type 0 where
  pub statements : Block
  pub needed : Names
  pub kept : List Placed

abbrev pub no_body : LiveBody
no_body = record { statements = Nothing; needed = none_named; kept = [] }

-- a scalar is always bound, since it is assigned; an array if it is needed
abbrev pub keeps : Names → Parameter → Bool
keeps needed (OfValue label name) = true
keeps needed (OfVariable name) = is_some (needed name)

abbrev pub keep_where : Bool → Placed → List Placed → List Placed
keep_where b p rest = if b then p ∷ rest else rest

-- the parameters that are kept, of those from place i on
abbrev pub kept_from : Names → ℕ → List Parameter → List Placed
kept_from needed i [] = []
kept_from needed i (p ∷ ps) = keep_where (keeps needed p) (i, p) (kept_from needed (i + 1) ps)

abbrev pub first_tree : List Tree → Option Tree
first_tree [] = None
first_tree (e ∷ es) = Some e

abbrev pub argument_at : List Tree → ℕ → Option Tree
argument_at es i = first_tree (drop i es)

-- names, and those of an expression
abbrev pub marked : Names → Tree → Names
marked known (Number z) = known
marked known (Variable x) = numbered known x 0
marked known (Element x i) = marked (numbered known x 0) i
marked known (Operation op a b) = marked (marked known a) b

abbrev pub marked_argument : Names → Option Tree → Names
marked_argument known None = known
marked_argument known (Some e) = marked known e

-- names, and those of the arguments that a call binds
abbrev pub marked_kept : Names → List Placed → List Tree → Names
marked_kept known [] es = known
marked_kept known (k ∷ ks) es = marked_kept (marked_argument known (argument_at es k.0)) ks es

-- the parameters that a call of a name binds
abbrev pub KeptOf : Type 0
KeptOf = List ℕ → List Placed

abbrev pub kept_in : List LiveBody → Option Found → List Placed
kept_in bodies None = []
kept_in bodies (Some f) = (slice_index_or bodies (length f.earlier) no_body).kept

abbrev pub kept_by : List LiveBody → (List ℕ → Option Found) → KeptOf
kept_by bodies of_name name = kept_in bodies (of_name name)

-- names, and those that statements need
abbrev mutual
  pub marked_one : KeptOf → Names → Statement → Names
  marked_one kept known (SetVariable x e) = marked (numbered known x 0) e
  marked_one kept known (SetElement x i e) = marked (marked (numbered known x 0) i) e
  marked_one kept known (Choice t a b) =
      marked_all kept (marked_all kept (marked (marked known t.left) t.right) a) b
  marked_one kept known (Loop t a) = marked_all kept (marked (marked known t.left) t.right) a
  marked_one kept known (Call name es) = marked_kept known (kept name) es

  pub marked_all : KeptOf → Names → Block → Names
  marked_all kept known Nothing = known
  marked_all kept known (Then s rest) = marked_all kept (marked_one kept known s) rest

-- two renamings agree on these names
abbrev pub AgreeOn : Names → Renaming → Renaming → Type 0
AgreeOn known one other = (y : List ℕ) → is_some (known y) ≡ true → one y ≡ other y

-- the code of some statements depends on nothing but what these names are
abbrev pub DependsOn : Inlines → Names → Block → Type 0
DependsOn inlines known b = (one other : Renaming) → AgreeOn known one other → (next : ℕ)
    → inlined_all inlines one b next ≡ inlined_all inlines other b next
