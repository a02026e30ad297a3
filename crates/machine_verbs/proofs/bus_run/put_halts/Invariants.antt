use Rattle.std.proofs.Common.{◌≡◌, take}
use Rattle.gr_base.specs.Prelude.{Adds}
use Rattle.machine_verbs.specs.Prelude.{all_halted, halts_of}
use Rattle.call_steps.specs.Prelude.{core_lines}
use Rattle.machine_verbs.proofs.bus_run.put_halts.Given as goal

abbrev pub invariant-ending : goal.invariant-ending
invariant-ending g l = record {
  put : Adds (g.O.Sink.seen l.fn.out).held (g.O.Sink.seen l.out).held
      (core_lines 0 (take l.core (halts_of l.bus.cores)));
  calm : (g.O.Sink.seen l.out).faults ≡ (g.O.Sink.seen l.fn.out).faults;
  all : l.all ≡ all_halted (take l.core (halts_of l.bus.cores));
}
