use Rattle.std.proofs.Common.{◌≡◌, take, map, All}
use Rattle.fault_texts.specs.Prelude.{IsPlain, shown_byte}
use Rattle.fault_texts.proofs.words.Words.finish.Given as goal

abbrev pub invariant-loop-byte : goal.invariant-loop-byte
invariant-loop-byte l =
    (l.text.items ≡ map shown_byte (take l.byte-index l.byte-items)) × All IsPlain l.text.items
