use Rattle.std.proofs.Common.{◌≡◌, ◌-◌}
use Rattle.run_tools.specs.Prelude.{MayRead, left_to_read}
use Rattle.run_tools.proofs.trace_reader.TraceReader.next.Given as goal

-- what is left to read stays, though some of it waits now
abbrev pub invariant-reading : goal.invariant-reading
invariant-reading g l = record {
  left : left_to_read l.self l.machine.object l.machine.state l.machine.live
      ≡ left_to_read l.fn.self l.fn.machine.object l.fn.machine.state l.fn.machine.live;
  may_read : MayRead l.self l.machine.object l.machine.state;
}

abbrev pub decreases-reading : goal.decreases-reading
decreases-reading g l = l.self.cycles - l.self.reached
