use Rattle.bank_alloc.proofs.KnownNames.{gains_secret}
use Rattle.bank_alloc.proofs.indexes.mark.Goals as goal

pub returns-in-Ok : goal.returns-in-Ok
returns-in-Ok c =
    gains_secret c.args.indexed.now c.insert.new.self c.bytes.result c.args.array.now c.args.index c.in-Secret.is
    c.bytes.ensures.bytes
    c.in-Ok.ensures.updates.0
