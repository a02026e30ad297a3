use Rattle.std.proofs.Common.{◌≡◌, take}
use Rattle.gr_word.specs.Prelude.{AreWords}
use Rattle.run_data.proofs.inputs.copied.Given as goal

abbrev pub invariant-loop-word : goal.invariant-loop-word
invariant-loop-word l = record {
  copied : l.copy.items ≡ take l.word-index l.words;
  words : AreWords l.copy.items;
}
