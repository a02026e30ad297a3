-- For private clauses only: procedures by the numbers that a map has under their names.
use Rattle.std.specs.Prelude.{◌≡◌, ℕ, nat_lt, List, [], ◌∷◌, length, map, min, reverse, take, slice_index_or, if◌then◌else◌, bytes_eq, Option, Some, None}
use Rattle.std.specs.Option.{option_map}
use Rattle.procs_tree.specs.Trees.{Nothing, Procedure}
use Rattle.procs_tree.specs.Seen.{procedure_of}
use Rattle.procs_tree.specs.declared.trees.Proc.{Proc}
use Rattle.procs_tree.specs.CallMeaning.{Names}

abbrev pub no_procedure : Procedure
no_procedure = record { name = []; parameters = []; locals = []; body = Nothing }

-- the procedure of a name, and those before it, the last first
pub record Found : Type 0 where
  pub procedure : Procedure
  pub earlier : List Procedure

abbrev pub found : List Procedure → List ℕ → Option Found
found [] name = None
found (p ∷ earlier) name =
    if bytes_eq name p.name then Some (record { procedure = p; earlier = earlier }) else found earlier name

-- a procedure by its number, if it is one of the first ones
abbrev pub found_before : List Procedure → ℕ → Option ℕ → Option Found
found_before ps callable None = None
found_before ps callable (Some k) =
    if nat_lt k (min callable (length ps)) then Some (record {
      procedure = slice_index_or ps k no_procedure;
      earlier = reverse (take k ps);
    }) else None

-- the procedure of a name, if it is one of the first ones
abbrev pub by_number : List Procedure → ℕ → Names → List ℕ → Option Found
by_number ps callable numbers name = found_before ps callable (numbers name)

abbrev pub procedure_by_number : List Procedure → ℕ → Names → List ℕ → Option Procedure
procedure_by_number ps callable numbers name = option_map (λ (f : Found). f.procedure) (by_number ps callable numbers name)

-- the numbers determine which procedure a name calls, at any place
abbrev pub AreNumbered : List Procedure → Names → Type 0
AreNumbered ps numbers = (callable : ℕ) (name : List ℕ)
    → found (reverse (take callable ps)) name ≡ by_number ps callable numbers name

-- a procedure by its number, and those before it
abbrev pub found_at : List Proc → Option ℕ → Option Found
found_at procs None = None
found_at procs (Some k) =
    Some
    (record {
      procedure = slice_index_or (map procedure_of procs) k no_procedure;
      earlier = reverse (take k (map procedure_of procs));
    })
