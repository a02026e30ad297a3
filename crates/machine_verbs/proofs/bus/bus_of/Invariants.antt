use Rattle.std.proofs.Common.{◌≡◌, length, take}
use Rattle.std.specs.Prelude.{IsTrue}
use Rattle.machine_verbs.specs.Prelude.{AllBegin}
use Rattle.machine_verbs.proofs.bus.bus_of.Given as goal

abbrev pub invariant-entering : goal.invariant-entering
invariant-entering l = record {
  plan : l.bus.plan ≡ l.fn.plan;
  sound : IsTrue l.bus.sound;
  fresh : IsTrue l.bus.fresh;
  count : length l.bus.cores ≡ l.core;
  begun : AllBegin l.seed 0 (take l.core l.objects) (take l.core l.inputs) l.bus.cores;
}
