use Rattle.std.proofs.Common.{◌≡◌, ◌+◌, ◌-◌, ◌≤◌, length}
use Rattle.gr_word.specs.declared.variables.Label.{Label}
use Rattle.src_tree.specs.Prelude.{context_of, block_of_all, TypedBlock}
use Rattle.block_cache_gen.specs.Prelude.{pair_count}
use Rattle.block_cache_gen.proofs.PairCounts.{from}
use Rattle.block_cache_gen.proofs.alike.pair_count.Given as goal

abbrev pub invariant-loop-count : goal.invariant-loop-count
invariant-loop-count l = record {
  within : (l.count ≤ length l.first) × (l.count ≤ length l.second);
  first : (code : Label) × TypedBlock (context_of l.emitter.decls) code (from l.count l.first);
  second : (code : Label) × TypedBlock (context_of l.emitter.decls) code (from l.count l.second);
  counted : pair_count l.emitter (block_of_all l.first) (block_of_all l.second)
      ≡ l.count + pair_count l.emitter (from l.count l.first) (from l.count l.second);
}

abbrev pub decreases-loop-count : goal.decreases-loop-count
decreases-loop-count l = length l.first - l.count
