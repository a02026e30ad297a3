use Rattle.std.proofs.Common.{◌≡◌, map, take, All}
use Rattle.gr_word.specs.Prelude.{AreWords}
use Rattle.run_data.specs.Prelude.{entries_view, given_words}
use Rattle.run_data.proofs.inputs.gather.Given as goal

abbrev pub invariant-loop-want : goal.invariant-loop-want
invariant-loop-want l = record {
  given : l.inputs ≡ map (given_words (entries_view l.members.entries)) (take l.want-index l.wants);
  words : All AreWords l.inputs;
}
