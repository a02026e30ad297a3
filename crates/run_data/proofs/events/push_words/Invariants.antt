use Rattle.std.proofs.Common.{◌≡◌, ◌≤◌, ◌+◌, ◌*◌, ◌++◌, length, take}
use Rattle.run_data.specs.Prelude.{words_text}
use Rattle.run_data.proofs.events.push_words.Given as goal

abbrev pub invariant-loop-word : goal.invariant-loop-word
invariant-loop-word l = record {
  items : l.line.items ≡ l.fn.line.items ++ words_text (take l.word-index l.words);
  most : length l.line.items ≤ length l.fn.line.items + 21 * l.word-index;
  least : length l.fn.line.items + l.word-index ≤ length l.line.items;
}
