use Rattle.std.proofs.Common.{◌≡◌, drop}
use Rattle.clap.specs.Words.{app_of}
use Rattle.command_words.specs.Prelude.{texts, with_all}
use Rattle.command_words.proofs.verbs.with_all.Given as goal

abbrev pub invariant-adding : goal.invariant-adding
invariant-adding l =
    with_all (app_of l.more) l.kind (texts (drop l.name-index l.names))
    ≡ with_all (app_of l.fn.command) l.kind (texts l.names)
