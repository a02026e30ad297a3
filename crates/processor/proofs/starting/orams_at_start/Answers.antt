use Rattle.std.proofs.Common.{◌∙◌}
use Rattle.processor.proofs.LoadedBanks.{orams-more}
use Rattle.processor.proofs.starting.orams_at_start.Goals as goal

pub loop-bank-preserved : goal.loop-bank-preserved
loop-bank-preserved c =
    c.in_ok-push.ensures.items
    ∙ orams-more c.args.accepted.now c.args.inputs.now c.loop-bank.orams.items c.in_ok-bank_at_start.field-0
    c.loop-bank.bank c.loop-bank.auto.bank c.loop-bank.invariant c.in_ok-bank_at_start.ensures
