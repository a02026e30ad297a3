use Rattle.std.proofs.Common.{sym, ap, ◌∙◌}
use Rattle.lt_isa.specs.Prelude.{has_unit_period}
use Rattle.lt_isa.proofs.Windows.{access_start-at_once, always_open}
use Rattle.processor.proofs.waits.access_at.Goals as goal

pub returns-then-has_unit_period-clause-start : goal.returns-then-has_unit_period-clause-start
returns-then-has_unit_period-clause-start c =
    let p = c.args.object.now.profile in
    sym (access_start-at_once p ((always_open p c.profile.ensures.in_range.profile).0
    (sym (c.has_unit_period.ensures ∙ ap has_unit_period c.profile.ensures.value) ∙ c.if-has_unit_period.true))
    c.args.cycle)
