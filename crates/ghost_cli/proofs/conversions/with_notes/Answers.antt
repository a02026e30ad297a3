use Rattle.call_laws.proofs.Inferring.{no-notes}
use Rattle.ghost_cli.proofs.conversions.with_notes.Goals as goal

pub returns-in-Err-clause-refused : goal.returns-in-Err-clause-refused
returns-in-Err-clause-refused c =
    no-notes c.args.object.now c.in-Err.why _ c.in-Err.ensures.why c.in-Err.ensures.suffices c.without_notes.ensures
