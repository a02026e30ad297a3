use Rattle.std.proofs.Common.{refl, sym, ap, ◌∙◌, subst, arith}
use Rattle.gr_base.proofs.Counts.{rose_behind}
use Rattle.lt_isa.proofs.Steps.{step_start-least}
use Rattle.banks.specs.Prelude.{accesses_from}
use Rattle.processor.specs.declared.ends.End.TheVariants.{Halted, Spent}
use Rattle.processor.specs.Prelude.{BrokeOff, ComeBy, ShowsOn}
use Rattle.processor.proofs.QuickRuns.{progress_on}
use Rattle.processor.proofs.Progress.{Ended, starts, step_further, step_later, ends_late, ends_faulty, ends_halted, breaks}
use Rattle.processor.proofs.machine.Machine.run.Given.{Over}
use Rattle.processor.proofs.machine.Machine.run.Goals.{After-die, After-die-in-Err, After-running, In-Ok-Faulted}
use Rattle.processor.proofs.machine.Machine.run.Goals as goal

pub running-init : goal.running-init
running-init g c = record {
  object = refl;
  live = c.requires.live;
  whole = c.requires.whole;
  progress = starts g.B.Bank.shows g.B.Bank.comes g.W.Watch.hears g.met.B.Bank.shows_each g.met.B.Bank.comes_none
      c.args.self.now.object c.args.self.now.state c.args.self.now.orams c.args.cycles c.args.watch.now
      (g.met.W.Watch.hears_none c.args.watch.now c.requires.whole);
  told_before = λ tells. tells;
  count = omega arith;
  count_stays = λ full. full;
  same = g.met.W.Watch.same_itself c.args.watch.now;
}

pub step-requires-clause-left : goal.step-requires-clause-left
step-requires-clause-left g c =
    c.next_access.ensures.left (omega (
      arith,
      step_start-least c.next_access.new.self.object c.next_access.new.self.state,
      c.next_access.ensures.start,
      c.from.ensures,
    ))

pub running-smaller : goal.running-smaller
running-smaller g c =
    let far = progress_on c.running.invariant.object c.next_access.ensures.object c.running.invariant.progress
    c.next_access.ensures.alike c.next_access.ensures.later c.next_access.ensures.orams in
    let later =
    step_later g.met.B.Bank.shows_each g.met.B.Bank.comes_none g.met.B.Bank.comes_then
    g.met.W.Watch.hears_then c.next_access.ensures.in_range
    c.next_access.ensures.shaped far c.step.new.self.state (omega (arith, c.next_access.ensures.start, c.from.ensures))
    (rw c.in-Ok-On.field-0-is at c.in-Ok-On.ensures.outcome) in
    omega (arith, later, c.next_access.ensures.later)

pub running-preserved : goal.running-preserved
running-preserved g c =
    let far = progress_on c.running.invariant.object c.next_access.ensures.object c.running.invariant.progress
    c.next_access.ensures.alike c.next_access.ensures.later c.next_access.ensures.orams in
    let moved = c.next_access.ensures.object ∙ c.running.invariant.object in
    let further =
    step_further g.met.B.Bank.shows_each g.met.B.Bank.comes_none g.met.B.Bank.comes_then
    g.met.W.Watch.hears_then c.next_access.ensures.in_range
    c.next_access.ensures.shaped far c.step.new.self.state c.step.new.self.orams
    (omega (arith, c.next_access.ensures.start, c.from.ensures))
    (rw c.in-Ok-On.field-0-is at c.in-Ok-On.ensures.outcome) c.in-Ok-On.ensures.heard in
    record {
      object = c.in-Ok-On.ensures.object ∙ moved;
      live = c.in-Ok-On.ensures.live ∙ (c.next_access.ensures.live ∙ c.running.invariant.live);
      whole = c.in-Ok-On.ensures.after.whole;
      progress = rw moved at further;
      count = omega (arith, c.running.invariant.count, c.in-Ok-On.ensures.after.count);
      count_stays = λ full. c.in-Ok-On.ensures.after.count_stays (c.running.invariant.count_stays full);
      told_before = λ tells. c.running.invariant.told_before (c.in-Ok-On.ensures.after.told_before tells);
      same = g.met.W.Watch.same_through c.args.watch.now c.running.watch c.step.new.watch
          c.running.invariant.same c.in-Ok-On.ensures.after.same;
    }

-- the run halted
halted : (g : Over) (c : After-die g)
    → Ended g.B.Bank.shows g.B.Bank.comes g.W.Watch.hears
    c.args.self.now.object c.args.self.now.state c.args.self.now.orams
    c.step.new.self.state c.step.new.self.orams c.args.cycles c.args.watch.now
    c.step.new.watch (Halted c.start-start.result)
halted g c =
    let far = progress_on c.running.invariant.object c.next_access.ensures.object c.running.invariant.progress
    c.next_access.ensures.alike c.next_access.ensures.later c.next_access.ensures.orams in
    let over =
    ends_halted g.met.B.Bank.shows_each g.met.B.Bank.comes_none g.met.B.Bank.comes_then
    g.met.W.Watch.hears_then c.next_access.ensures.in_range
    c.next_access.ensures.shaped far c.step.new.self.state c.step.new.self.orams c.start-start.result
    c.start-start.ensures.value (omega (arith, c.next_access.ensures.start, c.from.ensures))
    (rw c.in-Ok-Halted.field-0-is at c.in-Ok-Halted.ensures.outcome) c.in-Ok-Halted.ensures.heard in
    rw (c.next_access.ensures.object ∙ c.running.invariant.object) at over

pub returns-in-Ok-Halted-clause-heard : goal.returns-in-Ok-Halted-clause-heard
returns-in-Ok-Halted-clause-heard g c = let over = halted g c in over.heard

pub returns-in-Ok-Halted-clause-state : goal.returns-in-Ok-Halted-clause-state
returns-in-Ok-Halted-clause-state g c = let over = halted g c in ap (λ m. m.state) c.die.ensures ∙ over.state

pub returns-in-Ok-Halted-clause-end : goal.returns-in-Ok-Halted-clause-end
returns-in-Ok-Halted-clause-end g c = let over = halted g c in over.ends

pub returns-in-Ok-Halted-clause-come : goal.returns-in-Ok-Halted-clause-come
returns-in-Ok-Halted-clause-come g c =
    let over = halted g c in
    subst (λ orams. ComeBy g.B.Bank.comes c.args.self.now.orams
    (accesses_from c.args.self.now.object c.args.self.now.state c.args.cycles) orams)
    (sym (ap (λ m. m.orams) c.die.ensures)) over.come

pub returns-in-Ok-Halted-clause-show_on : goal.returns-in-Ok-Halted-clause-show_on
returns-in-Ok-Halted-clause-show_on g c =
    let over = halted g c in
    subst (λ orams. ComeBy (ShowsOn g.B.Bank.shows) c.args.self.now.orams
    (accesses_from c.args.self.now.object c.args.self.now.state c.args.cycles) orams)
    (sym (ap (λ m. m.orams) c.die.ensures)) over.show

-- the run is at a fault
faulted : (g : Over) (c : In-Ok-Faulted g)
    → Ended g.B.Bank.shows g.B.Bank.comes g.W.Watch.hears
    c.args.self.now.object c.args.self.now.state c.args.self.now.orams
    c.step.new.self.state c.step.new.self.orams c.args.cycles c.args.watch.now c.step.new.watch
    Spent
faulted g c =
    let far = progress_on c.running.invariant.object c.next_access.ensures.object c.running.invariant.progress
    c.next_access.ensures.alike c.next_access.ensures.later c.next_access.ensures.orams in
    let over =
    ends_faulty g.met.B.Bank.shows_each g.met.B.Bank.comes_none g.met.B.Bank.comes_then
    g.met.W.Watch.hears_then c.next_access.ensures.in_range
    c.next_access.ensures.shaped far c.step.new.self.state c.step.new.self.orams
    (rw c.in-Ok-Faulted.field-0-is at c.in-Ok-Faulted.ensures.stays)
    (omega (arith, c.next_access.ensures.start, c.from.ensures))
    (rw c.in-Ok-Faulted.field-0-is at c.in-Ok-Faulted.ensures.outcome) c.in-Ok-Faulted.ensures.heard in
    rw (c.next_access.ensures.object ∙ c.running.invariant.object) at over

pub returns-in-Ok-Faulted-clause-heard : goal.returns-in-Ok-Faulted-clause-heard
returns-in-Ok-Faulted-clause-heard g c = let over = faulted g c in over.heard

pub returns-in-Ok-Faulted-clause-state : goal.returns-in-Ok-Faulted-clause-state
returns-in-Ok-Faulted-clause-state g c = let over = faulted g c in over.state

pub returns-in-Ok-Faulted-clause-end : goal.returns-in-Ok-Faulted-clause-end
returns-in-Ok-Faulted-clause-end g c = let over = faulted g c in over.ends

pub returns-in-Ok-Faulted-clause-come : goal.returns-in-Ok-Faulted-clause-come
returns-in-Ok-Faulted-clause-come g c = let over = faulted g c in over.come

pub returns-in-Ok-Faulted-clause-show_on : goal.returns-in-Ok-Faulted-clause-show_on
returns-in-Ok-Faulted-clause-show_on g c = let over = faulted g c in over.show

-- the next access would start too late
late : (g : Over) (c : After-running g)
    → Ended g.B.Bank.shows g.B.Bank.comes g.W.Watch.hears
    c.args.self.now.object c.args.self.now.state c.args.self.now.orams
    c.next_access.new.self.state c.next_access.new.self.orams c.args.cycles c.args.watch.now c.running.watch
    Spent
late g c =
    let far = progress_on c.running.invariant.object c.next_access.ensures.object c.running.invariant.progress
    c.next_access.ensures.alike c.next_access.ensures.later c.next_access.ensures.orams in
    let over =
    ends_late g.met.B.Bank.shows_each g.met.B.Bank.comes_none g.met.B.Bank.comes_then
    g.met.W.Watch.hears_then c.next_access.ensures.in_range
    c.next_access.ensures.shaped far (omega (arith, c.next_access.ensures.start, c.from.ensures)) in
    rw (c.next_access.ensures.object ∙ c.running.invariant.object) at over

pub returns-clause-heard : goal.returns-clause-heard
returns-clause-heard g c = let over = late g c in over.heard

pub returns-clause-state : goal.returns-clause-state
returns-clause-state g c = let over = late g c in over.state

pub returns-clause-end : goal.returns-clause-end
returns-clause-end g c = let over = late g c in over.ends

pub returns-clause-come : goal.returns-clause-come
returns-clause-come g c = let over = late g c in over.come

pub returns-clause-show_on : goal.returns-clause-show_on
returns-clause-show_on g c = let over = late g c in over.show

-- the watcher failed
broken : (g : Over) (c : After-die-in-Err g)
    → BrokeOff g.B.Bank.shows g.B.Bank.comes g.W.Watch.hears c.args.self.now.object c.args.self.now.state c.args.cycles
    c.args.self.now.orams c.step.new.self.orams c.step.new.self.state c.args.watch.now c.step.new.watch
    (g.W.Watch.torn c.step.new.watch)
broken g c =
    let far = progress_on c.running.invariant.object c.next_access.ensures.object c.running.invariant.progress
    c.next_access.ensures.alike c.next_access.ensures.later c.next_access.ensures.orams in
    let broke =
    breaks g.met.B.Bank.shows_each g.met.B.Bank.comes_none g.met.B.Bank.comes_then
    g.met.W.Watch.hears_then c.next_access.ensures.in_range c.next_access.ensures.shaped
    far c.step.new.self.orams c.step.new.self.state (g.W.Watch.torn c.step.new.watch)
    (omega (arith, c.next_access.ensures.start, c.from.ensures)) c.in-Err.ensures.broke in
    rw (c.next_access.ensures.object ∙ c.running.invariant.object) at broke

pub returns-in-Err-clause-broke : goal.returns-in-Err-clause-broke
returns-in-Err-clause-broke g c = let stopped = broken g c in stopped.broke

pub returns-in-Err-clause-broke_off : goal.returns-in-Err-clause-broke_off
returns-in-Err-clause-broke_off g c =
    subst (λ state. BrokeOff g.B.Bank.shows g.B.Bank.comes g.W.Watch.hears c.args.self.now.object c.args.self.now.state
    c.args.cycles c.args.self.now.orams c.die-in-Err.new.self.orams state c.args.watch.now c.step.new.watch
    (g.W.Watch.torn c.step.new.watch))
    (sym (ap (λ m. m.state) c.die-in-Err.ensures))
    (subst (λ orams. BrokeOff g.B.Bank.shows g.B.Bank.comes g.W.Watch.hears c.args.self.now.object
    c.args.self.now.state c.args.cycles c.args.self.now.orams orams c.step.new.self.state c.args.watch.now
    c.step.new.watch (g.W.Watch.torn c.step.new.watch))
    (sym (ap (λ m. m.orams) c.die-in-Err.ensures)) (broken g c))

pub returns-in-Err-clause-failed : goal.returns-in-Err-clause-failed
returns-in-Err-clause-failed g c =
    rose_behind (g.W.Watch.faults c.args.watch.now) (g.W.Watch.faults c.running.watch)
    (g.W.Watch.faults c.step.new.watch) c.running.invariant.count c.in-Err.ensures.after.count c.in-Err.ensures.after.failed
