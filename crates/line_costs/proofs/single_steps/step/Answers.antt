use Rattle.std.proofs.Common.{◌≡◌, ◌+◌, None, inl, inr, sym, ◌∙◌, arith}
use Rattle.std.specs.Prelude.{slice_get}
use Rattle.lt_isa.specs.Prelude.{step_start, final_from, trace_from}
use Rattle.lt_isa.proofs.Steps.{step-outside, step_start-least}
use Rattle.processor.specs.Prelude.{EndsAs}
use Rattle.line_costs.proofs.OneStep.{found-at, goes-on, halts, halts-at_once, none-found, rests, run-ends, run-left, stays-paused}
use Rattle.processor.specs.declared.ends.End.TheVariants as end
use Rattle.line_costs.proofs.single_steps.step.Goals as goal

pub returns-then-before-from-clause-went : goal.returns-then-before-from-clause-went
returns-then-before-from-clause-went g c =
    let o = c.args.machine.now.object in
    let s = c.args.machine.now.state in
    record {
      over = inl (omega (arith, c.cycle-before.ensures.value, step_start-least o s, c.if-before-from.true));
      in_range = c.cycle-before.ensures.in_range;
      shaped = c.cycle-before.ensures.shaped;
    }

pub returns-then-start-from-clause-went : goal.returns-then-start-from-clause-went
returns-then-start-from-clause-went g c =
    let o = c.args.machine.now.object in
    let s = c.args.machine.now.state in
    let stays = stays-paused o s _ _ _ c.run_to_access-start.ensures.paused (omega (arith, c.cycle-before.ensures.value)) in
    record {
      over = inl (omega (arith, stays.1, c.if-start-from.true));
      in_range = c.cycle-before.ensures.in_range;
      shaped = c.cycle-before.ensures.shaped;
    }

pub returns-in_default-clause-went : goal.returns-in_default-clause-went
returns-in_default-clause-went g c =
    let o = c.args.machine.now.object in
    let s = c.args.machine.now.state in
    let found = found-at o _ s c.args.place c.instruction_at.result c.instruction_at.ensures
    (c.object.ensures ∙ c.run_to_access-start.ensures.object) c.requires.place in
    let none : slice_get o.code s.place ≡ None = sym found ∙ none-found c.instruction_at.result c.in_default.not-Some in
    record {
      over = inr (step-outside o s none);
      in_range = c.cycle-before.ensures.in_range;
      shaped = c.cycle-before.ensures.shaped;
    }

pub returns-then-after-before-clause-went : goal.returns-then-after-before-clause-went
returns-then-after-before-clause-went g c =
    let o = c.args.machine.now.object in
    let s = c.args.machine.now.state in
    let stays = stays-paused o s _ _ _ c.run_to_access-start.ensures.paused (omega (arith, c.cycle-before.ensures.value)) in
    let next = c.run.new.self.state in
    let left : next ≡ final_from o s (step_start o s + 1) =
    run-left o _ s _ _ next c.in-Ok-Spent.ensures.state c.run_to_access-start.ensures.object stays.0
    (omega (arith, stays.1, c.if-start-from.false, c.ranges.cycles.fits)) in
    let ends : EndsAs (trace_from o s (step_start o s + 1)) end.Spent =
    run-ends o _ s _ _ _ end.Spent c.in-Ok-Spent.ensures.end c.in-Ok-Spent.field-0-is
    c.run_to_access-start.ensures.object stays.0
    (omega (arith, stays.1, c.if-start-from.false, c.ranges.cycles.fits)) in
    record {
      over = inr (rests o c.cycle-before.ensures.in_range s c.cycle-before.ensures.shaped next left ends
          (omega (arith, c.cycle-before.ensures.value, c.cycle-after.ensures.value, c.if-after-before.true)));
      in_range = c.cycle-before.ensures.in_range;
      shaped = c.cycle-before.ensures.shaped;
    }

pub returns-in-Ok-Halted-clause-went : goal.returns-in-Ok-Halted-clause-went
returns-in-Ok-Halted-clause-went g c =
    let o = c.args.machine.now.object in
    let s = c.args.machine.now.state in
    let stays = stays-paused o s _ _ _ c.run_to_access-start.ensures.paused (omega (arith, c.cycle-before.ensures.value)) in
    let ends : EndsAs (trace_from o s (step_start o s + 1)) (end.Halted c.in-Ok-Halted.at) =
    run-ends o _ s _ _ _ (end.Halted c.in-Ok-Halted.at) c.in-Ok-Halted.ensures.end c.in-Ok-Halted.field-0-is
    c.run_to_access-start.ensures.object stays.0
    (omega (arith, stays.1, c.if-start-from.false, c.ranges.cycles.fits)) in
    let stopped = halts o c.cycle-before.ensures.in_range s c.cycle-before.ensures.shaped c.in-Ok-Halted.at ends in
    record {
      last = stopped.0.0;
      stops = stopped.0.1;
      in_time = omega (arith, stays.1, c.if-start-from.false);
      at_is = sym (stopped.1 ∙ halts-at_once o s stopped.0.0 stopped.0.1);
      in_range = c.cycle-before.ensures.in_range;
      shaped = c.cycle-before.ensures.shaped;
    }

pub returns-else-after-before-clause-went : goal.returns-else-after-before-clause-went
returns-else-after-before-clause-went g c =
    let o = c.args.machine.now.object in
    let s = c.args.machine.now.state in
    let stays = stays-paused o s _ _ _ c.run_to_access-start.ensures.paused (omega (arith, c.cycle-before.ensures.value)) in
    let next = c.run.new.self.state in
    let left : next ≡ final_from o s (step_start o s + 1) =
    run-left o _ s _ _ next c.in-Ok-Spent.ensures.state c.run_to_access-start.ensures.object stays.0
    (omega (arith, stays.1, c.if-start-from.false, c.ranges.cycles.fits)) in
    let ends : EndsAs (trace_from o s (step_start o s + 1)) end.Spent =
    run-ends o _ s _ _ _ end.Spent c.in-Ok-Spent.ensures.end c.in-Ok-Spent.field-0-is
    c.run_to_access-start.ensures.object stays.0
    (omega (arith, stays.1, c.if-start-from.false, c.ranges.cycles.fits)) in
    let goes = goes-on o c.cycle-before.ensures.in_range s c.cycle-before.ensures.shaped next left ends
    (omega (arith, c.cycle-before.ensures.value, c.cycle-after.ensures.value, c.if-after-before.false)) in
    record {
      event = goes.0;
      goes = goes.1;
      here =
          sym (found-at o _ s c.args.place c.instruction_at.result c.instruction_at.ensures
          (c.object.ensures ∙ c.run_to_access-start.ensures.object) c.requires.place)
          ∙ c.in-Some.is;
      in_time = omega (arith, stays.1, c.if-start-from.false);
      took_is = omega (arith, c.cycle-before.ensures.value, c.cycle-after.ensures.value, c.if-after-before.false);
      some = omega (arith, c.if-after-before.false);
      fits = omega (arith, c.cycle-after.ensures.value, c.cycle-after.type_inv);
      in_range = c.cycle-before.ensures.in_range;
      shaped = c.cycle-before.ensures.shaped;
    }
