use Rattle.path_oram.proofs.Ahead.{leaves-one, left-one}
use Rattle.path_oram.proofs.leaves.first_leaves.Goals as goal

pub loop-preserved : goal.loop-preserved
loop-preserved g c = record {
  leaves =
      leaves-one c.args.height c.loop.counter
      (g.R.Rng.stream c.args.words.now) c.loop.leaves.items c.push.new.self.items c.next_u64.result c.low_bits.result
      (g.R.Rng.stream c.loop.words) (g.R.Rng.stream c.next_u64.new.self) c.loop.invariant.leaves c.loop.invariant.left
      c.next_u64.ensures c.low_bits.ensures.leaf c.in_ok-push.ensures.items;
  left =
      left-one c.loop.counter (g.R.Rng.stream c.args.words.now) c.next_u64.result (g.R.Rng.stream c.loop.words)
      (g.R.Rng.stream c.next_u64.new.self) c.loop.invariant.left c.next_u64.ensures;
}
