use Rattle.std.proofs.Common.{◌≡◌, true, sym, subst}
use Rattle.std.specs.Prelude.{IfOk}
use Rattle.clap.specs.Words.{App, is_simple_and_free}
use Rattle.command_words.specs.Prelude.{IsFound, texts}
use Rattle.run_tools.proofs.words.matches_of.Goals as goal

pub returns : goal.returns
returns c =
    λ free. subst (λ (a : App). IfOk c.matches_in.result (IsFound a (texts c.args.words.now)))
    c.in_ok-command_of.ensures
    (c.matches_in.ensures (subst (λ (a : App). is_simple_and_free a ≡ true) (sym c.in_ok-command_of.ensures) free))
