use Rattle.std.proofs.Common.{sym}
use Rattle.strength_reduction.proofs.Codes.{numbered_is}
use Rattle.word_selection.proofs.instructions.numbered.Goals as goal

pub returns : goal.returns
returns c = sym (numbered_is c.args.base c.args.i)
