use Rattle.std.proofs.Common.{◌≡◌, ◌-◌, ◌^◌, ◌≤◌, [], true, false}
use Rattle.bus_arbiter.proofs.Finishing.{FinishedSoFar}
use Rattle.bus_arbiter.proofs.bus.Bus.finish.Given as goal

abbrev pub invariant-finishing : goal.invariant-finishing
invariant-finishing g l = record {
  plan : l.self.plan ≡ l.fn.self.plan;
  sound : l.self.sound ≡ true;
  fresh : l.self.fresh ≡ false;
  whole : g.W.BusWatch.whole l.watch ≡ true;
  finished : FinishedSoFar l.fn.self.cores l.self.cores l.cycles l.core;
  heard : g.W.BusWatch.hears l.fn.watch [] l.watch;
  told_before : g.W.BusWatch.tells l.watch → g.W.BusWatch.tells l.fn.watch;
  count : g.W.BusWatch.faults l.fn.watch ≤ g.W.BusWatch.faults l.watch;
  count_stays : g.W.BusWatch.faults l.fn.watch ≡ 2 ^ 64 - 1 → g.W.BusWatch.faults l.watch ≡ 2 ^ 64 - 1;
  same : g.W.BusWatch.same l.fn.watch l.watch;
}
