use Rattle.std.proofs.Common.{flat_map}
use Rattle.gr_base.specs.Prelude.{Adds}
use Rattle.fault_texts.specs.Prelude.{escaped_char}
use Rattle.fault_texts.proofs.words.Words.name.Given as goal

abbrev pub invariant-loop-c : goal.invariant-loop-c
invariant-loop-c l = Adds l.fn.self l.self (flat_map escaped_char l.yielded)
