use Rattle.std.proofs.Common.{◌≡◌, drop}
use Rattle.command_words.specs.Prelude.{texts}
use Rattle.ghost_front.specs.Prelude.{asks_help}
use Rattle.ghost_front.proofs.requests.asks_help.Given as goal

abbrev pub invariant-loop-word : goal.invariant-loop-word
invariant-loop-word l = asks_help (texts (drop l.word-index l.words)) ≡ asks_help (texts l.words)
