use Rattle.std.proofs.Common.{◌≡◌, ℕ, ◌≤◌, List, length, drop}
use Rattle.gr_base.specs.Prelude.{found_under}
use Rattle.block_cache_gen.specs.Prelude.{variable_of}
use Rattle.block_cache_gen.proofs.variables.gather.Given as goal

abbrev pub invariant-loop-left : goal.invariant-loop-left
invariant-loop-left l = record {
  within : l.left ≤ length l.decls;
  known : (x : List ℕ)
      → found_under l.variables x ≡ variable_of l.pins l.w l.held l.left (drop l.left l.decls) (drop l.left l.places) (drop l.left l.slots) x;
}

abbrev pub decreases-loop-left : goal.decreases-loop-left
decreases-loop-left l = l.left
