-- For private clauses only: what is left of procedures, as the proofs see it.
use Rattle.std.specs.Prelude.{List, map}
use Rattle.std.specs.Borrow.{Bor}
use Rattle.gr_base.specs.NameMaps.{found_under}
use Rattle.src_tree.specs.Trees.{Tree, expr_tree, test_of}
use Rattle.src_tree.specs.declared.trees.Expr.{Expr}
use Rattle.procs_tree.specs.Seen.{block_of, parameter_of}
use Rattle.procs_tree.specs.Trees.{Statement, SetVariable, SetElement, Choice, Loop, Call, Block}
use Rattle.procs_pruning.specs.Needed.{LiveBody, Placed}
use Rattle.procs_pruning.specs.declared.live.Live.{Live}
use Rattle.procs_pruning.specs.declared.live.Live.TheOpen.{Live-F}
use Rattle.procs_pruning.specs.declared.live.Live.TheFolds.{fold-Live}
use Rattle.procs_pruning.specs.declared.needed.Kept as lives
use Rattle.procs_pruning.specs.declared.needed.Body as lives_of
use Rattle.procs_pruning.specs.declared.live.Live.TheOpen as open_live

-- arguments that are held by reference
abbrev pub trees_seen : List (Bor Expr) → List Tree
trees_seen arguments = map (λ (b : Bor Expr). expr_tree b.now) arguments

abbrev pub live_step : Live-F Statement → Statement
live_step (open_live.Set x e) = SetVariable x.now (expr_tree e.now)
live_step (open_live.Put x i e) = SetElement x.now (expr_tree i.now) (expr_tree e.now)
live_step (open_live.If g a b) = Choice (test_of g.now) (block_of a.items) (block_of b.items)
live_step (open_live.While g a) = Loop (test_of g.now) (block_of a.items)
live_step (open_live.Call x es) = Call x.now (trees_seen es.items)

abbrev pub live_of : Live → Statement
live_of = fold-Live Statement live_step

abbrev pub live_block : List Live → Block
live_block statements = block_of (map live_of statements)

abbrev pub placed_of : lives.Kept → Placed
placed_of k = (k.at, parameter_of k.param.now)

abbrev pub body_of : lives_of.Body → LiveBody
body_of b = record {
  statements = live_block b.statements.items;
  needed = found_under b.needed;
  kept = map placed_of b.kept.items;
}

abbrev pub bodies_of : List lives_of.Body → List LiveBody
bodies_of bodies = map body_of bodies
