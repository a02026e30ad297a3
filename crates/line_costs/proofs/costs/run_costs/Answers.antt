use Rattle.std.proofs.Common.{◌<◌, length, refl, sym, ap, ◌∙◌, subst, arith}
use Rattle.lt_isa.specs.Prelude.{final_from, trace_from, Parts}
use Rattle.lt_isa.proofs.Steps.{step_start-least}
use Rattle.processor.specs.declared.ends.End.{End}
use Rattle.processor.specs.Prelude.{EndsAs}
use Rattle.line_costs.specs.Prelude.{end_cycle, part_of, added, next_of}
use Rattle.line_costs.proofs.Counted.{accesses-fit, counted-next, counted-none, cycles-fit, halt-accesses, halt-ends, once-in, over-in, padding-fits, place-next, place-within, spent-accesses, spent-cycles, spent-ends, stops-in}
use Rattle.line_costs.proofs.costs.run_costs.Goals as goal

pub running-init : goal.running-init
running-init g c =
    let made = c.in_ok-costs.ensures in
    record {
      live = c.requires.live;
      object = refl;
      place = sym c.requires.place;
      so_far = counted-none c.args.machine.now.object c.args.machine.now.state c.args.cycles c.args.parts.now c.args.rows
          c.in_ok-costs.costs c.live.ensures.shaped c.requires.cycle made.cycles made.accesses made.padding;
      end = made.end;
    }

pub add-requires-clause-cycles_fit : goal.add-requires-clause-cycles_fit
add-requires-clause-cycles_fit g c =
    cycles-fit _ _ _ _ _ _ c.running.costs c.running.invariant.so_far _ _ _
    (once-in _ _ c.running.invariant.object _ _ _ _ _ c.in-On.ensures.went) c.part_at-part.result c.running.costs
    (c.part_at-part.ensures.part ∙ ap (part_of c.args.parts.now c.args.rows) c.running.invariant.place)
    c.part_at-part.ensures.within c.requires.taken

pub add-requires-clause-accesses_fit : goal.add-requires-clause-accesses_fit
add-requires-clause-accesses_fit g c =
    accesses-fit _ _ _ _ _ _ c.running.costs c.running.invariant.so_far _ _ _
    (once-in _ _ c.running.invariant.object _ _ _ _ _ c.in-On.ensures.went) c.part_at-part.result c.running.costs
    (c.part_at-part.ensures.part ∙ ap (part_of c.args.parts.now c.args.rows) c.running.invariant.place)
    c.part_at-part.ensures.within c.requires.taken c.accesses_at.result c.accesses_at.ensures

pub add-requires-clause-padding_fits : goal.add-requires-clause-padding_fits
add-requires-clause-padding_fits g c =
    padding-fits _ _ _ _ _ _ c.running.costs c.running.invariant.so_far _ _ _
    (once-in _ _ c.running.invariant.object _ _ _ _ _ c.in-On.ensures.went) c.part_at-part.result c.running.costs
    (c.part_at-part.ensures.part ∙ ap (part_of c.args.parts.now c.args.rows) c.running.invariant.place)
    c.part_at-part.ensures.within c.requires.taken

pub next_place-place-requires : goal.next_place-place-requires
next_place-place-requires g c =
    subst (λ (q : Parts). c.running.place < length q.code)
    (sym (c.object.ensures ∙ c.step.ensures.object ∙ c.running.invariant.object))
    (place-within _ _ _ _ _ _ c.running.costs c.running.invariant.so_far _ _ _
    (once-in _ _ c.running.invariant.object _ _ _ _ _ c.in-On.ensures.went) c.part_at-part.result c.running.costs
    (c.part_at-part.ensures.part ∙ ap (part_of c.args.parts.now c.args.rows) c.running.invariant.place)
    c.part_at-part.ensures.within c.requires.taken c.running.place c.running.invariant.place)

pub running-smaller : goal.running-smaller
running-smaller g c =
    let once = c.in-On.ensures.went in
    let begins = step_start-least c.running.machine.object c.running.machine.state in
    omega (arith, begins, once.in_time, once.took_is, once.some)

pub running-preserved : goal.running-preserved
running-preserved g c =
    let same = c.step.ensures.object ∙ c.running.invariant.object in
    record {
      live = c.in-On.ensures.live;
      object = same;
      place =
          place-next _ _ _ _ _ _ c.running.costs c.running.invariant.so_far _ _ _
          (once-in _ _ c.running.invariant.object _ _ _ _ _ c.in-On.ensures.went) c.part_at-part.result c.add.new.self
          (c.part_at-part.ensures.part ∙ ap (part_of c.args.parts.now c.args.rows) c.running.invariant.place)
          c.part_at-part.ensures.within c.requires.taken c.running.place c.next_place-place.result c.running.invariant.place
          (c.next_place-place.ensures
          ∙ ap (λ (q : Parts). next_of q c.running.place c.in-On.instruction c.in-On.took) (c.object.ensures ∙ same));
      so_far =
          counted-next _ _ _ _ _ _ c.running.costs c.running.invariant.so_far _ _ _
          (once-in _ _ c.running.invariant.object _ _ _ _ _ c.in-On.ensures.went) c.part_at-part.result c.add.new.self
          (c.part_at-part.ensures.part ∙ ap (part_of c.args.parts.now c.args.rows) c.running.invariant.place)
          c.part_at-part.ensures.within c.requires.taken c.add.ensures.cycles
          (c.add.ensures.accesses
          ∙ ap (added c.running.costs.accesses.items c.part_at-part.result.row) c.accesses_at.ensures)
          c.add.ensures.padding;
      end = c.add.ensures.end ∙ c.running.invariant.end;
    }

pub returns-in-Halted-clause-end : goal.returns-in-Halted-clause-end
returns-in-Halted-clause-end g c =
    halt-ends _ _ _ _ _ _ _ c.running.invariant.so_far c.in-Halted.at
    (stops-in _ _ c.running.invariant.object _ _ _ c.in-Halted.ensures.went)

pub returns-in-Halted-clause-accesses : goal.returns-in-Halted-clause-accesses
returns-in-Halted-clause-accesses g c =
    halt-accesses _ _ _ _ _ _ _ c.running.invariant.so_far c.in-Halted.at
    (stops-in _ _ c.running.invariant.object _ _ _ c.in-Halted.ensures.went)

pub returns-in-Spent-clause-end : goal.returns-in-Spent-clause-end
returns-in-Spent-clause-end g c =
    subst (λ (e : End). EndsAs (trace_from c.args.machine.now.object c.args.machine.now.state c.args.cycles) e)
    (sym c.running.invariant.end)
    (spent-ends _ _ _ _ _ _ _ c.running.invariant.so_far
    (over-in _ _ c.running.invariant.object _ _ c.in-Spent.ensures.went))

pub returns-in-Spent-clause-cycles : goal.returns-in-Spent-clause-cycles
returns-in-Spent-clause-cycles g c =
    spent-cycles _ _ _ _ _ _ _ c.running.invariant.so_far
    (over-in _ _ c.running.invariant.object _ _ c.in-Spent.ensures.went)
    ∙ ap (λ (e : End). end_cycle e (final_from c.args.machine.now.object c.args.machine.now.state c.args.cycles))
    (sym c.running.invariant.end)

pub returns-in-Spent-clause-accesses : goal.returns-in-Spent-clause-accesses
returns-in-Spent-clause-accesses g c =
    spent-accesses _ _ _ _ _ _ _ c.running.invariant.so_far
    (over-in _ _ c.running.invariant.object _ _ c.in-Spent.ensures.went)
