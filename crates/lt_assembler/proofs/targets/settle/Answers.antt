use Rattle.std.proofs.Common.{arith}
use Rattle.std.proofs.lemmas.Grind.{common_steps}
use Rattle.lt_assembler.specs.Assembled.{aimed, settled}
use Rattle.lt_assembler.proofs.targets.settle.Goals as goal

pub loop-found-preserved : goal.loop-found-preserved
unfolding settled aimed
loop-found-preserved c = grind (arith, common_steps)
