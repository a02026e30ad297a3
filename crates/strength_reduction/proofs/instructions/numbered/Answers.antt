use Rattle.std.proofs.Common.{sym}
use Rattle.strength_reduction.proofs.Codes.{numbered_is}
use Rattle.strength_reduction.proofs.instructions.numbered.Goals as goal

pub returns : goal.returns
returns c = sym (numbered_is c.args.to c.args.i)
