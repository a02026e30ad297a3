use Rattle.std.proofs.Common.{◌≡◌, ℕ, Bool, List, Option, length, refl, ap, ◌∙◌, arith, get_or, true, None}
use Rattle.trace_patterns.specs.Prelude.{Known, start_known}
use Rattle.region_walk.proofs.EntryStates.{start-secret, start-banks, start-bank, known_of-same}
use Rattle.region_walk.proofs.states.RegionState.known_after.Goals as goal

pub loop-register-init : goal.loop-register-init
loop-register-init c = record {
  done = λ q lt. absurd (omega arith);
  size = ap (λ (k : Known). length k.secret) c.start-known.ensures ∙ start-secret;
  banks = refl;
}

pub loop-slot-init : goal.loop-slot-init
loop-slot-init c =
    let same : c.loop-register.known.banks ≡ start_known.banks = c.loop-register.invariant.banks
    ∙ ap (λ (k : Known). k.banks) c.start-known.ensures in
    record {
      done = λ q lt. absurd (omega arith);
      rest = λ q le. ap (λ (bs : List (Option ℕ)). get_or bs q None) same ∙ start-bank q;
      size = ap (λ (bs : List (Option ℕ)). length bs) same ∙ start-banks;
      secret = refl;
    }

pub returns : goal.returns
returns c =
    let l = c.loop-slot in
    let same = l.invariant.secret in
    known_of-same l.known c.args.self.now
    (ap (λ (bs : List Bool). length bs) same ∙ c.loop-register.invariant.size) l.invariant.size (omega arith)
    (omega arith) (λ q lt. ap (λ (bs : List Bool). get_or bs q true) same
    ∙ c.loop-register.invariant.done q (omega arith)) (λ q lt. l.invariant.done q (omega arith))
