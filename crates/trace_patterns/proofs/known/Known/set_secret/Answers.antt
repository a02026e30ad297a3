use Rattle.std.proofs.Common.{ℕ, Bool, true, false, List, sym, ap, ◌∙◌}
use Rattle.trace_patterns.specs.Prelude.{Known, claims, set_secret}
use Rattle.trace_patterns.proofs.Masks.{marks-set_bit, marks-clear_bit}
use Rattle.trace_patterns.proofs.known.Known.set_secret.Goals as goal

labelled : List Bool → List ℕ → Known
labelled secret slots = record { secret = secret; banks = claims 8 slots }

pub returns-then-secret : goal.returns-then-secret
unfolding labelled
returns-then-secret c =
    let inside = c.self.inside in
    let r = c.args.register in
    ap (λ (secret : List Bool). labelled secret inside.slots) (marks-set_bit inside.secrets r c.requires)
    ∙ ap (λ (k : Known). set_secret k r true) c.self.view_is ∙ ap (set_secret c.args.self.now r) (sym c.if-secret.true)

pub returns-else-secret : goal.returns-else-secret
unfolding labelled
returns-else-secret c =
    let inside = c.self.inside in
    let r = c.args.register in
    ap (λ (secret : List Bool). labelled secret inside.slots) (marks-clear_bit inside.secrets r c.requires)
    ∙ ap (λ (k : Known). set_secret k r false) c.self.view_is
    ∙ ap (set_secret c.args.self.now r) (sym c.if-secret.false)
