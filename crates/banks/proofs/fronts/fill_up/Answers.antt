use Rattle.std.proofs.Common.{sym, arith}
use Rattle.banks.proofs.Blocks.{filled_up_full}
use Rattle.banks.proofs.FrontWords.{resized}
use Rattle.banks.proofs.fronts.fill_up.Goals as goal

pub returns-in-Ok-clause-items : goal.returns-in-Ok-clause-items
returns-in-Ok-clause-items c =
    resized c.args.words.now c.args.len c.resize.new.self.items (omega arith) (rw c.in-Ok.is at c.resize.ensures.items)

pub returns-else-len-clause-items : goal.returns-else-len-clause-items
returns-else-len-clause-items c = sym (filled_up_full c.args.len c.args.words.now.items (omega arith))
