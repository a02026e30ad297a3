use Rattle.procs_tree.proofs.NamesAdded.{numbered_one}
use Rattle.procs_tree.proofs.own_names.add_name.Goals as goal

pub returns-in-Ok : goal.returns-in-Ok
returns-in-Ok c =
    numbered_one c.args.names.now c.insert.new.self c.args.name c.args.n c.in-Ok.ensures.updates.0
