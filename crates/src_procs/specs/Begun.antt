-- For private clauses only: a call begins, with the names that its procedure needs.
use Rattle.std.specs.Prelude.{List, [], ◌∷◌, Option, Some, None}
use Rattle.src_tree.specs.Trees.{Tree}
use Rattle.procs_tree.specs.Trees.{Parameter, Procedure}
use Rattle.procs_tree.specs.Inlined.{Renaming}
use Rattle.procs_pruning.specs.Needed.{Placed, argument_at}
use Rattle.src_procs.specs.Expanding.{Binding, Held, looked_up, with_parameter}

abbrev pub with_argument : Renaming → Binding → Parameter → Option Tree → Binding
with_argument caller b p None = b
with_argument caller b p (Some e) = with_parameter caller b p e

abbrev pub with_kept : Renaming → Binding → List Placed → List Tree → Binding
with_kept caller b [] es = b
with_kept caller b (k ∷ ks) es = with_kept caller (with_argument caller b k.1 (argument_at es k.0)) ks es

-- a call begins, with these names and the assignments made for them
abbrev pub begun_by : Binding → List Procedure → Held → Held
begun_by b earlier x = record {
  scopes = record { callable = earlier; names = looked_up b.bound } ∷ x.scopes;
  open_blocks = b.open_blocks;
  labels = b.labels;
}
