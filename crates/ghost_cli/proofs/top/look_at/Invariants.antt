use Rattle.std.proofs.Common.{drop}
use Rattle.command_words.specs.Prelude.{AreTexts, texts}
use Rattle.ghost_cli.proofs.top.look_at.Given as goal

abbrev pub invariant-looking : goal.invariant-looking
invariant-looking l = AreTexts (texts (drop l.word-index l.words)) → AreTexts (texts l.words)
