use Rattle.std.proofs.Common.{◌≡◌, ◌-◌, ◌^◌, ◌≤◌, true}
use Rattle.processor.proofs.Progress.{Progress}
use Rattle.processor.proofs.machine.Machine.run.Given as goal

abbrev pub invariant-running : goal.invariant-running
invariant-running g l = record {
  object : l.self.object ≡ l.initial.self.object;
  live : l.self.live ≡ true;
  whole : g.W.Watch.whole l.watch ≡ true;
  progress : Progress g.B.Bank.shows g.B.Bank.comes g.W.Watch.hears l.initial.self.object l.initial.self.state
      l.initial.self.orams l.self.state l.self.orams l.cycles l.initial.watch l.watch;
  count : g.W.Watch.faults l.initial.watch ≤ g.W.Watch.faults l.watch;
  count_stays : g.W.Watch.faults l.initial.watch ≡ 2 ^ 64 - 1 → g.W.Watch.faults l.watch ≡ 2 ^ 64 - 1;
  told_before : g.W.Watch.tells l.watch → g.W.Watch.tells l.initial.watch;
  same : g.W.Watch.same l.initial.watch l.watch;
}

abbrev pub decreases-running : goal.decreases-running
decreases-running g l = l.cycles - l.self.state.cycle
