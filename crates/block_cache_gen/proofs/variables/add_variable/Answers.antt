use Rattle.gr_base.proofs.NameMaps.{name_added}
use Rattle.block_cache_gen.proofs.variables.add_variable.Goals as goal

pub returns-in-Ok : goal.returns-in-Ok
returns-in-Ok c =
    name_added c.args.variables.now c.insert.new.self c.args.name c.args.variable c.in-Ok.ensures.updates.0
