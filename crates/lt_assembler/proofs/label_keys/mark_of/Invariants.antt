use Rattle.std.proofs.Common.{◌≡◌, drop}
use Rattle.lt_assembler.specs.Prelude.{mark_from, mark_of}
use Rattle.lt_assembler.proofs.label_keys.mark_of.Given as goal

abbrev pub invariant-loop-byte : goal.invariant-loop-byte
invariant-loop-byte l = mark_from l.mark (drop l.byte-index l.name) ≡ mark_of l.name
