-- For private clauses only: calls of procedures that do nothing but hand their arguments on.
use Rattle.std.specs.Prelude.{◌≡◌, ℕ, List, [], ◌∷◌, map, if◌then◌else◌, bytes_eq, Option, Some, None}
use Rattle.std.specs.Option.{option_map}
use Rattle.std.specs.Borrow.{Bor}
use Rattle.std.specs.BTreeMap.{BTreeMap}
use Rattle.gr_base.specs.NameMaps.{found_under}
use Rattle.src_tree.specs.Trees.{Tree, Variable, expr_tree}
use Rattle.src_tree.specs.declared.trees.Expr.{Expr}
use Rattle.procs_tree.specs.Trees.{Parameter, Procedure, Statement, Call}
use Rattle.procs_tree.specs.CallCauses.{parameter_name}
use Rattle.procs_tree.specs.Measured.{scalars}
use Rattle.procs_tree.specs.Inlined.{Renaming, inlined, inlines_of}

-- the arguments of a call by the names of the parameters
abbrev pub Arguments : Type 0
Arguments = List ℕ → Option Tree

abbrev pub with_argument : List ℕ → Tree → Arguments → Arguments
with_argument name e others y = if bytes_eq name y then Some e else others y

-- of two parameters with one name the first counts
abbrev pub argument_of : List Parameter → List Tree → Arguments
argument_of [] es y = None
argument_of (p ∷ ps) [] y = None
argument_of (p ∷ ps) (e ∷ es) y = with_argument (parameter_name p) e (argument_of ps es) y

-- a bare name
abbrev pub bare : Option Tree → Option Tree
bare (Some (Variable x)) = Some (Variable x)
bare _ = None

-- what a bare name in a procedure's statements is in its caller's, where that is a bare name too
abbrev pub handed : Arguments → Tree → Option Tree
handed given (Variable y) = bare (given y)
handed given _ = None

abbrev pub argument_seen : Bor Expr → Tree
argument_seen b = expr_tree b.now

abbrev pub arguments_under : BTreeMap (Bor (List ℕ)) (Bor Expr) → Arguments
arguments_under given name = option_map argument_seen (found_under given name)

-- a procedure without variables of its own hands the arguments of its one call on
pub record HandsOn (p : Procedure) (es : List Tree) (name : List ℕ) (ds : List Tree) (made : Statement) : Type 0 where
  pub arguments : List Tree
  pub is : made ≡ Call name arguments
  pub none : scalars p.parameters ≡ 0
  pub locals : p.locals ≡ []
  pub handed : map Some arguments ≡ map (handed (argument_of p.parameters es)) ds

-- the program has the same code for both
abbrev pub SameStatement : List Procedure → Statement → Statement → Type 0
SameStatement ps s t = (names : Renaming) (next : ℕ)
    → inlined (inlines_of ps) names s next ≡ inlined (inlines_of ps) names t next
