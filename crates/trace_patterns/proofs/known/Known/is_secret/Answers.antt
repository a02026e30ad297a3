use Rattle.std.proofs.Common.{ℕ, ◌==◌, true, sym, ap, ◌∙◌}
use Rattle.std.proofs.lemmas.Nat.Bits.{shr_and_one}
use Rattle.trace_patterns.specs.Prelude.{Known, is_secret}
use Rattle.trace_patterns.proofs.Masks.{get_or-marks}
use Rattle.trace_patterns.proofs.known.Known.is_secret.Goals as goal

pub returns : goal.returns
returns c =
    let secrets = c.self.inside.secrets in
    let r = c.args.register in
    ap (λ (n : ℕ). n == 1) (shr_and_one secrets r) ∙ sym (get_or-marks 32 secrets r true c.requires)
    ∙ ap (λ (k : Known). is_secret k r) c.self.view_is
