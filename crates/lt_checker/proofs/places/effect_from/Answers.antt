use Rattle.std.proofs.Common.{◌∙◌}
use Rattle.std.proofs.lemmas.Result.{IfOk-weaker}
use Rattle.lt_checker.specs.Prelude.{effect_at, effect_from}
use Rattle.lt_checker.proofs.places.effect_from.Goals as goal

pub returns-in-Enters : goal.returns-in-Enters
unfolding effect_from
returns-in-Enters c =
    let go = effect_at c.args.object.now c.args.place in
    IfOk-weaker c.effect_at.result _ _ (λ e h. h ∙ c.in-Enters.ensures go) c.effect_at.ensures
