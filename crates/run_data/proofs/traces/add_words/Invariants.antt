use Rattle.std.proofs.Common.{◌≡◌, ◌++◌, take}
use Rattle.run_data.specs.Prelude.{words_text}
use Rattle.run_data.proofs.traces.add_words.Given as goal

abbrev pub invariant-loop-word : goal.invariant-loop-word
invariant-loop-word l = l.text.items ≡ l.fn.text.items ++ words_text (take l.word-index l.words)
