use Rattle.std.proofs.Common.{◌≡◌, length, ap, ◌∙◌, true, arith}
use Rattle.std.specs.Vec.{with_items}
use Rattle.lt_isa.specs.Prelude.{Bound}
use Rattle.processor.proofs.Cells.{pad_of-set, refilled}
use Rattle.processor.proofs.scratchpad.Scratchpad.load.Goals as goal

pub returns-clause-bound : goal.returns-clause-bound
returns-clause-bound g c =
    let cell = c.index_mut-cell.result.now in
    let size : length c.read.new.into ≡ cell.words.len = omega arith in
    pad_of-set c.self.inside.words c.self.inside.cells.items c.args.self.now c.args.slot
    (record { bound = true; bank = c.args.bank; block = c.args.block; words = with_items cell.words c.read.new.into })
    _
    c.self.view_is
    (ap (λ words. Bound c.args.bank c.args.block words)
    (refilled cell.words.len c.read.new.into cell.words.items size ∙ c.read.ensures.filled))
