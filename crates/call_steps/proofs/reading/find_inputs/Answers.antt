use Rattle.std.proofs.Common.{IfErr, IfOk, List, refl, ap, ◌∙◌, subst}
use Rattle.std.proofs.lemmas.Result.{err_from_is_err_and}
use Rattle.gr_word.specs.declared.variables.Want.{Want}
use Rattle.lt_isa.specs.Prelude.{wants_of}
use Rattle.call_replies.specs.Prelude.{said}
use Rattle.call_steps.specs.Prelude.{Finds, FindsNone, stage, with_variables}
use Rattle.call_steps.proofs.Reaching.{not-begun, out-of-memory}
use Rattle.call_steps.proofs.reading.find_inputs.Goals as goal

pub returns-in_err-wants-clause-stopped : goal.returns-in_err-wants-clause-stopped
returns-in_err-wants-clause-stopped g c =
    let passed = err_from_is_err_and c.from_residual.result c.from_residual.ensures.1 in
    rw (passed.1, passed.2) (λ next. out-of-memory not-begun refl)

pub returns-clause-found : goal.returns-clause-found
returns-clause-found g c =
    let before = stage (g.F.Shelf.seen c.args.shelf.now) (g.F.Shelf.log c.args.shelf.now) in
    let after = stage (g.F.Shelf.seen c.find_variables.new.shelf) (g.F.Shelf.log c.find_variables.new.shelf) in
    subst (λ (ws : List Want). IfOk c.find_variables.result
    (λ inputs. Finds before after (with_variables ws c.args.name.now) inputs))
    (c.deref.ensures.value ∙ c.in_ok-wants.ensures.wants ∙ ap wants_of c.object.ensures.object)
    c.find_variables.ensures.found

pub returns-clause-stopped : goal.returns-clause-stopped
returns-clause-stopped g c =
    let before = stage (g.F.Shelf.seen c.args.shelf.now) (g.F.Shelf.log c.args.shelf.now) in
    let after = stage (g.F.Shelf.seen c.find_variables.new.shelf) (g.F.Shelf.log c.find_variables.new.shelf) in
    subst (λ (ws : List Want). IfErr c.find_variables.result
    (λ reply. FindsNone before after (with_variables ws c.args.name.now) (said reply)))
    (c.deref.ensures.value ∙ c.in_ok-wants.ensures.wants ∙ ap wants_of c.object.ensures.object)
    c.find_variables.ensures.stopped
