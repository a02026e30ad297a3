use Rattle.std.proofs.Common.{sym, ◌∙◌}
use Rattle.object_file.proofs.KnownNames.{gains_name, new_where_unknown}
use Rattle.object_file.proofs.symbols.is_new_name.Goals as goal

pub returns-in-Ok-clause-value : goal.returns-in-Ok-clause-value
returns-in-Ok-clause-value c =
    new_where_unknown c.args.names.now c.args.before.now c.args.name.now c.in-Ok.new c.requires
    (sym c.name_fits.ensures ∙ c.if-not-name_fits.false)
    c.in-Ok.ensures.added

pub returns-in-Ok-clause-gained : goal.returns-in-Ok-clause-gained
returns-in-Ok-clause-gained c =
    λ new. gains_name c.args.names.now c.insert.new.self c.args.name c.in-Ok.ensures.updates.0
