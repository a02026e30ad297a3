use Rattle.std.proofs.Common.{ℤ, List, sym, ap, ◌∙◌, subst}
use Rattle.gr_word.specs.Prelude.{FitsWants}
use Rattle.flow_types.specs.Prelude.{declared_wants}
use Rattle.call_steps.specs.Prelude.{sample_inputs}
use Rattle.ghost_cli.proofs.SampleInputs.{sample-fit}
use Rattle.ghost_cli.proofs.sample.sum_meant.Goals as goal

pub eval-requires : goal.eval-requires
eval-requires c =
    let wants = declared_wants c.args.program.now.decls.items in
    subst (λ (i : List (List ℤ)). FitsWants wants i)
    (sym (c.in_ok-inputs.ensures ∙ ap sample_inputs (c.deref.ensures.value ∙ c.in_ok-wants.ensures.wants)))
    (sample-fit wants)
