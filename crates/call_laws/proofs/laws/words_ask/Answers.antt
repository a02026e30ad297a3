use Rattle.call_laws.specs.Prelude.{works}
use Rattle.command_words.proofs.VerbWords.{words-ask}
use Rattle.call_laws.proofs.laws.words_ask.Goals as goal

pub returns : goal.returns
returns c = words-ask works
