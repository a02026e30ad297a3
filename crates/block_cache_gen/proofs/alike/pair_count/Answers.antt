use Rattle.block_cache_gen.proofs.PairCounts.{second_ends}
use Rattle.block_cache_gen.proofs.alike.pair_count.Goals as goal

pub returns-else-count-second : goal.returns-else-count-second
returns-else-count-second c =
    second_ends c.args.emitter.now c.args.first.now c.args.second.now c.loop-count.count _ c.if-count-second.false
    c.loop-count.invariant.counted
