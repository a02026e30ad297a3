use Rattle.std.proofs.Common.{◌≡◌, ◌≤◌, length, true, false}
use Rattle.bus_arbiter.specs.Prelude.{AllStand, NoneBefore, StayJoined}
use Rattle.bus_arbiter.proofs.bus.Bus.pause_all.Given as goal

abbrev pub invariant-pausing : goal.invariant-pausing
invariant-pausing g l = record {
  plan : l.self.plan ≡ l.fn.self.plan;
  sound : l.self.sound ≡ true;
  fresh : l.self.fresh ≡ false;
  stand : AllStand l.self.plan l.self.cores;
  all : length l.self.cores ≡ length l.fn.self.cores;
  most : l.soonest ≤ l.cycles;
  stay : StayJoined l.fn.self.cores l.self.cores l.cycles;
  none : NoneBefore l.self.cores l.core l.cycles l.soonest;
}
