use Rattle.std.proofs.Common.{None, sym, ap, ◌∙◌, arith}
use Rattle.std.proofs.lemmas.List.{get_or_default}
use Rattle.trace_patterns.specs.Prelude.{Known, bank_known, claimed_bank}
use Rattle.trace_patterns.proofs.Masks.{get_or-claims}
use Rattle.trace_patterns.proofs.known.Known.bank.Goals as goal

pub returns-clause-bank : goal.returns-clause-bank
returns-clause-bank c =
    let slots = c.self.inside.slots in
    let j = c.args.slot in
    c.claimed_bank.ensures ∙ ap claimed_bank (get_or_default slots j 0 255 (omega arith))
    ∙ sym (get_or-claims 8 slots j None c.requires) ∙ ap (λ (k : Known). bank_known k j) c.self.view_is
