use Rattle.std.proofs.Common.{◌≡◌, map}
use Rattle.path_oram.specs.Prelude.{first_words, leaf_of, words_left}
use Rattle.path_oram.proofs.leaves.first_leaves.Given as goal

abbrev pub invariant-loop : goal.invariant-loop
invariant-loop g l = record {
  leaves : l.leaves.items ≡ map (leaf_of l.height) (first_words l.counter (g.R.Rng.stream l.initial.words));
  left : g.R.Rng.stream l.words ≡ words_left l.counter (g.R.Rng.stream l.initial.words);
}
