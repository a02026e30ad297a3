use Rattle.bank_alloc.proofs.PlacedBehind.{blocks_more}
use Rattle.resident_alloc.specs.Prelude.{resident_blocks}
use Rattle.resident_alloc.proofs.planning.blocks_of_banks.Goals as goal

pub loop-bank-preserved : goal.loop-bank-preserved
loop-bank-preserved c =
    blocks_more (resident_blocks c.args.size c.args.all.now) c.loop-bank.bank c.in_ok-needed.needed
    c.loop-bank.blocks.items c.push.new.self.items c.loop-bank.invariant c.in_ok-needed.ensures
    c.in_ok-push.ensures.items
