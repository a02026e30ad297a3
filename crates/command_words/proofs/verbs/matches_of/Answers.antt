use Rattle.std.proofs.Common.{◌≡◌, true, sym, subst}
use Rattle.std.proofs.lemmas.Result.{IfOk-weaker}
use Rattle.clap.specs.Words.{App, is_simple, is_simple_and_free}
use Rattle.command_words.specs.Prelude.{IsFound, texts}
use Rattle.command_words.proofs.VerbRows.{stated}
use Rattle.command_words.proofs.verbs.matches_of.Goals as goal

pub matches_in-requires-clause-simple : goal.matches_in-requires-clause-simple
matches_in-requires-clause-simple c =
    subst (λ (a : App). is_simple a ≡ true) (sym c.in_ok-command.ensures) (stated c.args.verb).0

pub matches_in-requires-clause-free : goal.matches_in-requires-clause-free
matches_in-requires-clause-free c =
    subst (λ (a : App). is_simple_and_free a ≡ true) (sym c.in_ok-command.ensures) (stated c.args.verb).1

pub returns : goal.returns
returns c =
    IfOk-weaker c.matches_in.result _ _ (λ found is.
    subst (λ (a : App). IsFound a (texts c.args.words.now) found) c.in_ok-command.ensures is) c.matches_in.ensures
