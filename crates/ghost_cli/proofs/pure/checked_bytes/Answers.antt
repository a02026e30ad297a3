use Rattle.std.proofs.Common.{sym, subst}
use Rattle.std.proofs.lemmas.Result.{IfErr-weaker, IfOk-weaker, err_from_is_err_and}
use Rattle.call_steps.specs.Prelude.{SpellsObject}
use Rattle.ghost_cli.proofs.PureCalls.{not-accepted, not-spelled}
use Rattle.ghost_cli.proofs.pure.checked_bytes.Goals as goal

pub returns-in_err-object-clause-refused : goal.returns-in_err-object-clause-refused
returns-in_err-object-clause-refused c =
    let passed = err_from_is_err_and c.from_residual.result c.from_residual.ensures.1 in
    rw (passed.1, passed.2) (not-spelled c.args.bytes.now _ c.in_err-object.ensures.refused)

pub returns-clause-spelled : goal.returns-clause-spelled
returns-clause-spelled c =
    IfOk-weaker c.checked.result _ _
    (λ o is. subst (SpellsObject c.args.bytes.now) (sym is) c.in_ok-object.ensures.found) c.checked.ensures.same

pub returns-clause-refused : goal.returns-clause-refused
returns-clause-refused c =
    IfErr-weaker c.checked.result _ _
    (λ reply. not-accepted c.args.bytes.now c.in_ok-object.object _ c.in_ok-object.ensures.found)
    c.checked.ensures.refused
