use Rattle.std.proofs.Common.{◌≡◌, ◌-◌, length}
use Rattle.call_steps.specs.Prelude.{BeginFrom}
use Rattle.call_steps.proofs.oblivious.orams_at_start.Given as goal

abbrev pub invariant-loop-bank : goal.invariant-loop-bank
invariant-loop-bank g l = record {
  count : length l.orams.items ≡ l.bank - 2;
  begun : BeginFrom (g.B.Seeded.begins l.accepted l.inputs l.seed l.core) 2 l.orams.items;
}
