use Rattle.std.proofs.Common.{arith}
use Rattle.std.proofs.lemmas.Grind.{common_steps}
use Rattle.run_data.proofs.inputs.copied.Goals as goal

pub push_word-requires : goal.push_word-requires
push_word-requires c = c.loop-word.invariant.words

pub loop-word-preserved : goal.loop-word-preserved
loop-word-preserved c = record {
  copied = grind (arith, common_steps);
  words = c.in_ok-push_word.ensures.words;
}

pub returns-clause-words : goal.returns-clause-words
returns-clause-words c = c.loop-word.invariant.words
