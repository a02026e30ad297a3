use Rattle.block_cache_gen.proofs.Emitting.{grows_then}
use Rattle.block_cache_gen.proofs.statements.put_set_variable.Goals as goal

pub returns-clause-grows : goal.returns-clause-grows
returns-clause-grows c =
    grows_then c.args.out.now c.put_operand.new.out c.put_write.new.out c.put_operand.ensures.grows c.put_write.ensures.grows
