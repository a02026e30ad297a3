use Rattle.processor.proofs.LoadedBanks.{starting-contents, starting-widths}
use Rattle.processor.proofs.starting.load_start.Goals as goal

pub load_over-requires-clause-banks : goal.load_over-requires-clause-banks
load_over-requires-clause-banks c =
    starting-contents c.args.accepted.now c.args.inputs.now c.in_ok-orams.orams.items _ c.in_ok-orams.ensures

pub load_over-requires-clause-widths : goal.load_over-requires-clause-widths
load_over-requires-clause-widths c =
    starting-widths c.args.accepted.now c.args.inputs.now c.in_ok-orams.orams.items _ c.in_ok-orams.ensures
