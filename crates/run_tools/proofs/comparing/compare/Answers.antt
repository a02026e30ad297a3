use Rattle.std.proofs.Common.{◌+◌, arith, subst, sym}
use Rattle.lt_isa.specs.Prelude.{trace_from}
use Rattle.call_steps.proofs.EventCounts.{trace-short}
use Rattle.run_tools.specs.Prelude.{EqualSoFar, left_to_read}
use Rattle.run_tools.proofs.Compared.{compared-begin, compared-less, compared-other, compared-over, compared-room, compared-same}
use Rattle.run_tools.proofs.Windows.{left-at-start}
use Rattle.run_tools.proofs.comparing.compare.Goals as goal

pub comparing-init : goal.comparing-init
comparing-init g c =
    let one = c.args.first.now in
    let other = c.args.second.now in
    let first_new = c.new-first_trace.ensures in
    let second_new = c.new-second_trace.ensures in
    record {
      first_may = record { in_range = c.live.ensures.in_range; shaped = c.live.ensures.shaped };
      second_may = record { in_range = c.live-2.ensures.in_range; shaped = c.live-2.ensures.shaped };
      so_far = compared-begin _ _ _ _
          (left-at-start c.new-first_trace.result one.object one.state one.live c.args.cycles first_new.waiting
          first_new.reached first_new.cycles c.requires.first_live)
          (left-at-start c.new-second_trace.result other.object other.state other.live c.args.cycles second_new.waiting
          second_new.reached second_new.cycles c.requires.second_live);
    }

pub overflow_add-events : goal.overflow_add-events
overflow_add-events g c =
    let first = c.args.first.now in
    let second = c.args.second.now in
    let was = c.comparing in
    let now = c.next.new in
    let room = compared-room
    (trace_from first.object first.state c.args.cycles)
    (trace_from second.object second.state c.args.cycles)
    (left_to_read was.first_trace was.first.object was.first.state was.first.live)
    (left_to_read now.self now.machine.object now.machine.state now.machine.live)
    (left_to_read was.second_trace was.second.object was.second.state was.second.live)
    was.events c.args.cycles was.end c.in_ok-one.one c.in_ok-other.other c.in-Same.event
    was.invariant.so_far c.in_ok-one.ensures.next c.in-Same.ensures
    (trace-short first.object first.state c.args.cycles) in
    omega (arith, room, c.ranges.cycles.fits)

pub comparing-preserved : goal.comparing-preserved
comparing-preserved g c =
    let was = c.comparing in
    let now = c.next.new in
    let later = c.next-in-comparing.new in
    record {
      first_may = c.in_ok-one.ensures.may_read;
      second_may = c.in_ok-other.ensures.may_read;
      so_far = subst
          (λ end. EqualSoFar
          (trace_from c.args.first.now.object c.args.first.now.state c.args.cycles)
          (trace_from c.args.second.now.object c.args.second.now.state c.args.cycles)
          (left_to_read now.self now.machine.object now.machine.state now.machine.live)
          (left_to_read later.self later.machine.object later.machine.state later.machine.live)
          (was.events + 1) end)
          (sym c.end_after-end.ensures)
          (compared-same
          (trace_from c.args.first.now.object c.args.first.now.state c.args.cycles)
          (trace_from c.args.second.now.object c.args.second.now.state c.args.cycles)
          (left_to_read was.first_trace was.first.object was.first.state was.first.live)
          (left_to_read was.second_trace was.second.object was.second.state was.second.live)
          (left_to_read now.self now.machine.object now.machine.state now.machine.live)
          (left_to_read later.self later.machine.object later.machine.state later.machine.live)
          was.events was.end c.in_ok-one.one c.in_ok-other.other c.in-Same.event
          was.invariant.so_far c.in_ok-one.ensures.next c.in_ok-other.ensures.next c.in-Same.ensures);
    }

pub comparing-smaller : goal.comparing-smaller
comparing-smaller g c =
    let was = c.comparing in
    let now = c.next.new in
    compared-less
    (left_to_read was.first_trace was.first.object was.first.state was.first.live)
    (left_to_read now.self now.machine.object now.machine.state now.machine.live)
    c.in_ok-one.one c.in_ok-other.other c.in-Same.event c.in_ok-one.ensures.next c.in-Same.ensures

pub returns-in-Over : goal.returns-in-Over
returns-in-Over g c =
    let was = c.comparing in
    let now = c.next.new in
    let later = c.next-in-comparing.new in
    compared-over
    (trace_from c.args.first.now.object c.args.first.now.state c.args.cycles)
    (trace_from c.args.second.now.object c.args.second.now.state c.args.cycles)
    (left_to_read was.first_trace was.first.object was.first.state was.first.live)
    (left_to_read was.second_trace was.second.object was.second.state was.second.live)
    (left_to_read now.self now.machine.object now.machine.state now.machine.live)
    (left_to_read later.self later.machine.object later.machine.state later.machine.live)
    was.events was.end c.in_ok-one.one c.in_ok-other.other
    was.invariant.so_far c.in_ok-one.ensures.next c.in_ok-other.ensures.next c.in-Over.ensures

pub returns-in-Other : goal.returns-in-Other
returns-in-Other g c =
    let was = c.comparing in
    let now = c.next.new in
    let later = c.next-in-comparing.new in
    compared-other
    (trace_from c.args.first.now.object c.args.first.now.state c.args.cycles)
    (trace_from c.args.second.now.object c.args.second.now.state c.args.cycles)
    (left_to_read was.first_trace was.first.object was.first.state was.first.live)
    (left_to_read was.second_trace was.second.object was.second.state was.second.live)
    (left_to_read now.self now.machine.object now.machine.state now.machine.live)
    (left_to_read later.self later.machine.object later.machine.state later.machine.live)
    was.events was.end c.in_ok-one.one c.in_ok-other.other c.in-Other.first c.in-Other.second
    was.invariant.so_far c.in_ok-one.ensures.next c.in_ok-other.ensures.next c.in-Other.ensures
