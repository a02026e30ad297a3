use Rattle.std.proofs.Common.{inr, Some, refl, subst}
use Rattle.lt_checker.specs.declared.checks.CheckError.{CheckError}
use Rattle.lt_checker.specs.Prelude.{IsRefusalOf}
use Rattle.call_replies.specs.declared.replies.Verdict.TheVariants.{Refused}
use Rattle.call_steps.proofs.reading.checked.Goals as goal

pub returns-in-Err-Refused-clause-refused : goal.returns-in-Err-Refused-clause-refused
returns-in-Err-Refused-clause-refused c =
    λ next. inr (
      Some (c.in-Err-Refused.pc, c.in-Err-Refused.reason),
      Refused c.in-Err-Refused.pc c.in-Err-Refused.reason,
      (subst (λ (e : CheckError). IsRefusalOf c.args.object e) c.in-Err-Refused.field-0-is
          c.in-Err-Refused.ensures.refused).0,
      refl,
      refl,
    )
