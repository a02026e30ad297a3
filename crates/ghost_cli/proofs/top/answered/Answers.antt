use Rattle.std.proofs.Common.{refl, sym}
use Rattle.call_steps.specs.Prelude.{NothingAsked, NoCalls}
use Rattle.ghost_cli.proofs.CallsNamed.{no-words}
use Rattle.ghost_cli.proofs.top.answered.Goals as goal

pub returns-then-words-eq0-clause-stopped : goal.returns-then-words-eq0-clause-stopped
returns-then-words-eq0-clause-stopped g c =
    NothingAsked (sym (no-words c.args.words.now c.if-words-eq0.true)) refl refl

pub returns-then-words-eq0-clause-calls : goal.returns-then-words-eq0-clause-calls
returns-then-words-eq0-clause-calls g c =
    NoCalls _ _
