use Rattle.std.proofs.Common.{◌<◌, ◌^◌, sym, ◌∙◌, subst, arith}
use Rattle.lt_isa.specs.Prelude.{step}
use Rattle.lt_isa.proofs.Steps.{step-at, step-outside, step_start-least}
use Rattle.banks.proofs.AccessRuns.{accessed-at, accessed-outside}
use Rattle.std.specs.Prelude.{IfSome}
use Rattle.processor.specs.Prelude.{IsLeft, CameTo, StaysIfFaulted}
use Rattle.processor.proofs.Progress.{came_to, stays_if_faulted}
use Rattle.processor.proofs.ToldSteps.{broke_step, told_nothing, told_step}
use Rattle.processor.proofs.machine.Machine.step.Goals as goal

pub returns-in_default-clause-outcome : goal.returns-in_default-clause-outcome
returns-in_default-clause-outcome g c =
    step-outside c.args.self.now.object c.args.self.now.state (sym c.fetch.ensures.value ∙ c.in_default.is)

pub returns-in_default-clause-heard : goal.returns-in_default-clause-heard
returns-in_default-clause-heard g c =
    let o = c.args.self.now.object in
    let s = c.args.self.now.state in
    let outside = sym c.fetch.ensures.value ∙ c.in_default.is in
    told_nothing g.B.Bank.shows g.B.Bank.comes g.W.Watch.hears o s c.args.self.now.orams c.args.watch.now
    (g.met.W.Watch.hears_none c.args.watch.now c.requires.whole)
    (accessed-outside o s outside) (step-outside o s outside)

pub execute-done-requires-clause-ready : goal.execute-done-requires-clause-ready
execute-done-requires-clause-ready g c =
    let early : c.args.self.now.state.cycle < 2 ^ 32 =
    omega (arith, step_start-least c.args.self.now.object c.args.self.now.state, c.requires.start) in
    c.in-Some.ensures.ready early

pub execute-done-requires-clause-left : goal.execute-done-requires-clause-left
execute-done-requires-clause-left g c =
    subst (λ found. IfSome found (IsLeft c.args.self.now.object c.args.self.now.state))
    (sym c.fetch.ensures.value ∙ c.in-Some.is) c.requires.left

pub returns-in-Ok-clause-outcome : goal.returns-in-Ok-clause-outcome
returns-in-Ok-clause-outcome g c =
    subst (λ went. CameTo went (step c.args.self.now.object c.args.self.now.state) c.execute-done.new.self.state)
    (sym c.went.ensures)
    (came_to c.execute-done.result _ c.execute-done.new.self.state
    (step-at c.args.self.now.object c.args.self.now.state c.in-Some.instruction
    (sym c.fetch.ensures.value ∙ c.in-Some.is)
    ∙ c.execute-done.ensures.outcome))

pub returns-in-Ok-clause-stays : goal.returns-in-Ok-clause-stays
returns-in-Ok-clause-stays g c =
    subst (λ went. StaysIfFaulted went c.args.self.now.state c.execute-done.new.self.state) (sym c.went.ensures)
    (stays_if_faulted c.execute-done.result c.args.self.now c.execute-done.new.self c.execute-done.ensures.stays)

pub returns-in-Ok-clause-heard : goal.returns-in-Ok-clause-heard
returns-in-Ok-clause-heard g c =
    let o = c.args.self.now.object in
    let s = c.args.self.now.state in
    let at = sym c.fetch.ensures.value ∙ c.in-Some.is in
    told_step g.B.Bank.shows g.B.Bank.comes g.W.Watch.hears o s c.args.self.now.orams c.execute-done.new.self.orams
    c.args.watch.now c.tell.new.watch c.execute-done.result c.execute-done.new.self.state c.args.stamp
    (step-at o s c.in-Some.instruction at ∙ c.execute-done.ensures.outcome)
    (accessed-at o s c.in-Some.instruction at ∙ c.execute-done.ensures.access)
    c.execute-done.ensures.orams c.requires.start c.in-Ok.ensures.heard

pub returns-in-Err-clause-broke : goal.returns-in-Err-clause-broke
returns-in-Err-clause-broke g c =
    let o = c.args.self.now.object in
    let s = c.args.self.now.state in
    let at = sym c.fetch.ensures.value ∙ c.in-Some.is in
    broke_step g.B.Bank.shows g.B.Bank.comes g.W.Watch.hears o s c.args.self.now.orams c.execute-done.new.self.orams
    c.args.watch.now c.tell.new.watch
    (g.W.Watch.torn c.tell.new.watch) c.execute-done.result c.execute-done.new.self.state c.args.stamp
    (step-at o s c.in-Some.instruction at ∙ c.execute-done.ensures.outcome)
    (accessed-at o s c.in-Some.instruction at ∙ c.execute-done.ensures.access)
    c.execute-done.ensures.orams c.requires.start c.in-Err.ensures.broke
