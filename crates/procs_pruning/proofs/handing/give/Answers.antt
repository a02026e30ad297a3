use Rattle.procs_pruning.proofs.HandedOn.{argument_added}
use Rattle.procs_pruning.proofs.handing.give.Goals as goal

pub returns-in-Ok : goal.returns-in-Ok
returns-in-Ok c =
    argument_added c.args.given.now c.insert.new.self c.args.name c.args.argument c.in-Ok.ensures.updates.0
