use Rattle.block_cache_gen.proofs.SameOps.{same_op-compared}
use Rattle.block_cache_gen.proofs.alike.same_op.Goals as goal

pub returns : goal.returns
returns c = same_op-compared c.eq.result c.args.op c.args.other c.eq.ensures
