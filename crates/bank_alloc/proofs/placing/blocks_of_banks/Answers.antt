use Rattle.bank_alloc.specs.Prelude.{first_free_block}
use Rattle.bank_alloc.proofs.PlacedBehind.{blocks_more}
use Rattle.bank_alloc.proofs.placing.blocks_of_banks.Goals as goal

pub loop-bank-preserved : goal.loop-bank-preserved
loop-bank-preserved c =
    blocks_more (λ bank. first_free_block c.args.size bank c.args.places.now) c.loop-bank.bank c.first_free.result
    c.loop-bank.blocks.items
    c.push.new.self.items c.loop-bank.invariant c.first_free.ensures c.in_ok-push.ensures.items
