use Rattle.std.proofs.Common.{length, refl, ap, arith, ◌∙◌}
use Rattle.std.proofs.lemmas.List.{length-replicate}
use Rattle.lt_isa.specs.Prelude.{trace_from}
use Rattle.call_steps.proofs.EventCounts.{trace-short}
use Rattle.run_tools.specs.Prelude.{left_to_read}
use Rattle.run_tools.proofs.Tallied.{orams-length, tallied-begin, tallied-found}
use Rattle.run_tools.proofs.Windows.{left-at-start}
use Rattle.run_tools.proofs.counting.count_events.Goals as goal

pub counting-init : goal.counting-init
counting-init g c =
    let m = c.args.machine.now in
    let begun = c.new-trace.ensures in
    record {
      may_read = record { in_range = c.live.ensures.in_range; shaped = c.live.ensures.shaped };
      so_far = tallied-begin (trace_from m.object m.state c.args.cycles) _ _ c.args.banks
          (left-at-start c.new-trace.result m.object m.state m.live c.args.cycles begun.waiting begun.reached begun.cycles
          c.requires)
          refl refl refl refl c.in_ok-orams.ensures refl;
      banks = ap length c.in_ok-orams.ensures ∙ length-replicate c.args.banks 0;
    }

pub counting-preserved : goal.counting-preserved
counting-preserved g c =
    let m = c.args.machine.now in
    let was = c.counting in
    let now = c.next.new in
    record {
      may_read = c.in_ok-event.ensures.may_read;
      so_far = tallied-found (trace_from m.object m.state c.args.cycles)
          (left_to_read was.trace was.machine.object was.machine.state was.machine.live)
          (left_to_read now.self now.machine.object now.machine.state now.machine.live)
          was.counts c.count.new.self c.in_ok-event.field-0 c.in-Some.event was.invariant.so_far
          c.in_ok-event.ensures.next c.in-Some.is c.count.ensures
          (let short = trace-short m.object m.state c.args.cycles in omega (arith, short, c.ranges.cycles.fits));
      banks = orams-length was.counts c.in-Some.event c.count.new.self c.count.ensures ∙ was.invariant.banks;
    }
