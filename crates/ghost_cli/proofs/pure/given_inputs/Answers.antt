use Rattle.std.proofs.Common.{IfErr, IfOk, ℤ, List, Ok, ap, ◌∙◌, subst}
use Rattle.gr_word.specs.declared.variables.Want.{Want}
use Rattle.lt_isa.specs.Prelude.{wants_of}
use Rattle.call_replies.specs.declared.replies.Verdict.TheVariants.{BadInput}
use Rattle.call_steps.specs.Prelude.{EndsWorkWith, AreInputs, WhichInputs, or_ends, Work}
use Rattle.call_replies.specs.Prelude.{said}
use Rattle.ghost_cli.proofs.pure.given_inputs.Goals as goal

pub returns-clause-given : goal.returns-clause-given
returns-clause-given c =
    subst (λ (ws : List Want). IfOk c.inputs_in.result (λ inputs. AreInputs ws c.args.json.now (Ok inputs)))
    (c.deref.ensures.value ∙ c.in_ok-wants.ensures.wants ∙ ap wants_of c.object.ensures.object)
    c.inputs_in.ensures.found

pub returns-clause-refused : goal.returns-clause-refused
returns-clause-refused c =
    subst (λ (ws : List Want). IfErr c.inputs_in.result (λ reply. (next : List (List ℤ) → Work)
    → EndsWorkWith (WhichInputs ws c.args.json.now) (or_ends BadInput next) (said reply)))
    (c.deref.ensures.value ∙ c.in_ok-wants.ensures.wants ∙ ap wants_of c.object.ensures.object)
    c.inputs_in.ensures.refused
