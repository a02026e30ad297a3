use Rattle.std.proofs.Common.{◌≡◌, suc, ◌++◌, drop}
use Rattle.word_selection.specs.Prelude.{choices_steps, code_of}
use Rattle.word_selection.proofs.reads.put_choices.Given as goal

abbrev pub invariant-loop-i : goal.invariant-loop-i
invariant-loop-i l =
    l.code.items ++ code_of l.to (choices_steps l.size (suc l.i) (drop l.i l.slots))
    ≡ l.fn.code.items ++ code_of l.to (choices_steps l.size 1 l.slots)
