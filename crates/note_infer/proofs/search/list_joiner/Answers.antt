-- What was listed stays so.
use Rattle.std.proofs.lemmas.Result.{on_ok_weaker}
use Rattle.note_infer.proofs.JoinersListed.{listed_keeps}
use Rattle.note_infer.proofs.search.list_joiner.Goals as goal

pub returns-in-Some-clause-keeps : goal.returns-in-Some-clause-keeps
returns-in-Some-clause-keeps c =
    on_ok_weaker c.push.result (λ h q. listed_keeps c.args.joiners.now c.push.new.self c.args.place q h)
    c.push.ensures.added
