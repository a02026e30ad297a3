-- For private clauses only: statements without the calls that add nothing.
use Rattle.std.specs.Prelude.{◌≡◌, ℕ, zero, suc, ◌<◌, ◌≤◌, List, [], ◌∷◌, length, map, reverse, take, slice_index_or, Option, Some, None}
use Rattle.src_tree.specs.FirstFault.{shown_number}
use Rattle.procs_tree.specs.Trees.{Statement, SetVariable, SetElement, Choice, Loop, Call, Block, Nothing, Then, Procedure}
use Rattle.procs_tree.specs.Inlined.{Renaming, inlines_of, inlined_all}
use Rattle.procs_tree.specs.Sizes.{CallSizes}
use Rattle.procs_pruning.specs.Needed.{DependsOn, LiveBody, kept_from, no_body}
use Rattle.procs_tree.specs.Numbered.{no_procedure}
use Rattle.procs_pruning.specs.LiveSeen.{bodies_of}
use Rattle.procs_tree.specs.Numbered.{AreNumbered}
use Rattle.procs_tree.specs.Seen.{procedure_of}
use Rattle.procs_pruning.specs.declared.needed.Procedures.{Procedures}
use Rattle.gr_base.specs.NameMaps.{found_under}

-- a statement, unless it is replaced by none
abbrev pub unless_none : ℕ → Statement → Option Statement
unless_none zero s = None
unless_none (suc n) s = Some s

abbrev pub with_first : Option Statement → Block → Block
with_first None rest = rest
with_first (Some s) rest = Then s rest

abbrev mutual
  pub kept : CallSizes → Statement → Option Statement
  kept sizes (SetVariable x e) = Some (SetVariable x e)
  kept sizes (SetElement x i e) = Some (SetElement x i e)
  kept sizes (Choice t a b) = Some (Choice t (pruned sizes a) (pruned sizes b))
  kept sizes (Loop t a) = Some (Loop t (pruned sizes a))
  kept sizes (Call name es) = unless_none (shown_number (sizes name es)) (Call name es)

  pub pruned : CallSizes → Block → Block
  pruned sizes Nothing = Nothing
  pruned sizes (Then s rest) = with_first (kept sizes s) (pruned sizes rest)

-- some statements, and a block after them
abbrev pub behind : List Statement → Block → Block
behind [] b = b
behind (s ∷ ss) b = Then s (behind ss b)

-- the program has the same code for both
abbrev pub SameCode : List Procedure → Block → Block → Type 0
SameCode ps a b = (names : Renaming) (next : ℕ)
    → inlined_all (inlines_of ps) names a next ≡ inlined_all (inlines_of ps) names b next

-- what is left of a procedure: it has its code, and needs no other names
pub record IsPruned (earlier : List Procedure) (p : Procedure) (body : LiveBody) : Type 0 where
  pub same : SameCode earlier body.statements p.body
  pub needs : DependsOn (inlines_of earlier) body.needed body.statements
  pub kept : body.kept ≡ kept_from body.needed 0 p.parameters

-- the first procedures' bodies
pub record ArePruned (ps : List Procedure) (bodies : List LiveBody) : Type 0 where
  pub each : (k : ℕ) → k < length bodies
      → IsPruned (reverse (take k ps)) (slice_index_or ps k no_procedure) (slice_index_or bodies k no_body)

-- the procedures of a file, their numbers, and what is left of each
pub record AreReady (file : Procedures) : Type 0 where
  pub numbers : AreNumbered (map procedure_of file.procs.now) (found_under file.numbers.now)
  pub bodies : ArePruned (map procedure_of file.procs.now) (bodies_of file.bodies.now)
  pub whole : length file.procs.now ≤ length file.bodies.now
