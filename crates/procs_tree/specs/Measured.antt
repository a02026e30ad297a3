-- For private clauses only: how many statements the bodies of procedures are replaced by, one number a procedure.
use Rattle.std.specs.Prelude.{◌≡◌, ℕ, ◌+◌, ◌<◌, ◌≤◌, List, [], ◌∷◌, length, min, reverse, take, slice_index_or, Option, Some, None}
use Rattle.src_tree.specs.FirstFault.{shown_number}
use Rattle.procs_tree.specs.Trees.{Parameter, OfValue, OfVariable, Procedure}
use Rattle.src_tree.specs.Trees.{Tree}
use Rattle.procs_tree.specs.Numbered.{Found}
use Rattle.procs_tree.specs.Frames.{new_values}
use Rattle.procs_tree.specs.Sizes.{CallSizes, sizes_of, size_of_all}
use Rattle.procs_tree.specs.Numbered.{no_procedure}

-- how many parameters are scalars
abbrev pub scalars : List Parameter → ℕ
scalars [] = 0
scalars (OfValue label name ∷ ps) = 1 + scalars ps
scalars (OfVariable name ∷ ps) = scalars ps

abbrev pub body_size : List Procedure → ℕ → ℕ
body_size ps k =
    shown_number (size_of_all (sizes_of (reverse (take k ps))) (slice_index_or ps k no_procedure).body)

-- how many statements a call is replaced by, where the bodies of the procedures before it have these sizes
abbrev pub counted_call : List ℕ → List Tree → Option Found → ℕ
counted_call sizes es None = 0
counted_call sizes es (Some f) =
    length (new_values f.procedure.parameters es f.procedure.locals) + slice_index_or sizes (length f.earlier) 0

abbrev pub sizes_by : List ℕ → (List ℕ → Option Found) → CallSizes
sizes_by sizes of_name name es = counted_call sizes es (of_name name)

-- the sizes of the first procedures' bodies
pub record AreSizes (ps : List Procedure) (sizes : List ℕ) : Type 0 where
  pub short : length sizes ≤ length ps
  pub each : (k : ℕ) → k < length sizes → slice_index_or sizes k 0 ≡ body_size ps k

-- the sizes of the bodies of the procedures that can be called
pub data IsMeasured (ps : List Procedure) (sizes : List ℕ) (callable : ℕ) : Type 0 where
  Measured : AreSizes ps sizes → min callable (length ps) ≤ length sizes → IsMeasured ps sizes callable

-- the sizes of all bodies
pub record HasSizes (ps : List Procedure) (sizes : List ℕ) : Type 0 where
  pub known : AreSizes ps sizes
  pub all : length ps ≤ length sizes
