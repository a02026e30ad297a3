use Rattle.std.proofs.Common.{◌≡◌, ◌++◌, flat_map, drop}
use Rattle.lt_assembler.specs.Prelude.{code_words, line}
use Rattle.lt_assembler.proofs.disassembly.put_code.Given as goal

abbrev pub invariant-loop-place : goal.invariant-loop-place
invariant-loop-place l =
    l.out.items ++ flat_map line (code_words l.notes l.place (drop l.place l.code))
    ≡ l.initial.out.items ++ flat_map line (code_words l.initial.notes 0 l.code)
