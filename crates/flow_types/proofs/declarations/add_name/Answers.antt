use Rattle.flow_types.proofs.KnownNames.{with_one}
use Rattle.flow_types.proofs.declarations.add_name.Goals as goal

pub returns-in-Ok-clause-added : goal.returns-in-Ok-clause-added
returns-in-Ok-clause-added c =
    with_one c.args.names.now c.insert.new.self c.args.name c.args.kind c.in-Ok.ensures.updates.0
