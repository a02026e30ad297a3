use Rattle.std.proofs.Common.{ℕ, List, Option, ap, ◌∙◌, arith}
use Rattle.trace_patterns.specs.Prelude.{Known, marks, set_bank}
use Rattle.trace_patterns.proofs.Masks.{claims-set}
use Rattle.trace_patterns.proofs.known.Known.set_bank.Goals as goal

pub returns : goal.returns
returns c =
    let inside = c.self.inside in
    let j = c.args.slot in
    let bank = c.args.bank in
    ap (λ (banks : List (Option ℕ)). let k : Known = record { secret = marks 32 inside.secrets; banks = banks } in k)
    (claims-set inside.slots j bank (omega arith) c.requires.slot c.requires.bank)
    ∙ ap (λ (k : Known). set_bank k j bank) c.self.view_is
