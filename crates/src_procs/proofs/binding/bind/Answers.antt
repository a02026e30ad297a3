use Rattle.std.proofs.Common.{sym, ◌∙◌}
use Rattle.src_procs.proofs.Bindings.{bound_added}
use Rattle.src_procs.proofs.binding.bind.Goals as goal

pub returns-in-Ok : goal.returns-in-Ok
returns-in-Ok c =
    bound_added c.args.bounds.now c.insert.new.self c.args.name c.args.stands
    (sym c.is_bound.ensures ∙ c.if-is_bound.false) c.in-Ok.ensures.updates.0
