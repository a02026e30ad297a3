use Rattle.std.proofs.Common.{◌≡◌, map, take}
use Rattle.std.specs.Fmt.{signed_decimal}
use Rattle.gr_word.specs.Prelude.{AreWords}
use Rattle.run_data.specs.Prelude.{contents}
use Rattle.run_data.proofs.trace_lines.read_words.Given as goal

abbrev pub invariant-loop-piece : goal.invariant-loop-piece
invariant-loop-piece l = record {
  spelled : contents (take l.piece-index l.pieces) ≡ map signed_decimal l.words.items;
  words : AreWords l.words.items;
}
