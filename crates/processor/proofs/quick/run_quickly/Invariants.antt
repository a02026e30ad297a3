use Rattle.std.proofs.Common.{◌≡◌, ◌-◌, ◌^◌, ◌<◌, ◌≤◌}
use Rattle.processor.specs.Prelude.{CameAlike}
use Rattle.processor.proofs.quick.run_quickly.Given as goal

abbrev pub invariant-quick : goal.invariant-quick
invariant-quick l = record {
  alike : CameAlike l.object l.cycles l.initial.registers l.initial.pad.slots l.fn.from l.registers l.pad.slots l.now;
  words : l.pad.words ≡ l.initial.pad.words;
  later : l.fn.from.cycle ≤ l.now.cycle;
  far : l.now.cycle < 2 ^ 34;
}

abbrev pub decreases-quick : goal.decreases-quick
decreases-quick l = l.limit - l.now.cycle
