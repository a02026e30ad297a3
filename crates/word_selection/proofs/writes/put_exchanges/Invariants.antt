use Rattle.std.proofs.Common.{◌≡◌, suc, ◌++◌, false, drop}
use Rattle.word_selection.specs.Prelude.{exchanges_steps, code_of}
use Rattle.word_selection.proofs.writes.put_exchanges.Given as goal

abbrev pub invariant-loop-i : goal.invariant-loop-i
invariant-loop-i l =
    l.code.items ++ code_of l.w.to (exchanges_steps l.w.effect l.w.size l.w.value (suc l.i) l.turn (drop l.i l.slots))
    ≡ l.fn.code.items ++ code_of l.w.to (exchanges_steps l.w.effect l.w.size l.w.value 1 false l.slots)
