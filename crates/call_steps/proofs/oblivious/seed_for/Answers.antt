use Rattle.std.proofs.Common.{◌∙◌}
use Rattle.call_steps.proofs.Beginnings.{seeded-bytes}
use Rattle.call_steps.proofs.oblivious.seed_for.Goals as goal

pub returns : goal.returns
returns c =
    seeded-bytes c.copy_from_slice.new.self c.args.seed c.args.core c.args.bank
    (c.copy_from_slice.ensures.after ∙ c.to_le_bytes.ensures)
