use Rattle.std.proofs.Common.{sym, ap, ◌∙◌, arith}
use Rattle.trace_patterns.specs.Prelude.{Known, marks, claims, registers_fit}
use Rattle.trace_patterns.proofs.Masks.{registers_fit-masks}
use Rattle.trace_patterns.proofs.known.Known.registers_fit.Goals as goal

pub returns : goal.returns
returns c =
    let first = c.self.inside in
    let second = c.claimed.inside in
    let claimed : Known = record { secret = marks 32 second.secrets; banks = claims 8 second.slots } in
    sym (registers_fit-masks first.secrets second.secrets (claims 8 first.slots) (claims 8 second.slots) (omega arith)
    (omega arith)) ∙ ap (λ (k : Known). registers_fit 32 k claimed) c.self.view_is
    ∙ ap (registers_fit 32 c.args.self.now) c.claimed.view_is
