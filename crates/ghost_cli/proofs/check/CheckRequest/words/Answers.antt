use Rattle.std.proofs.Common.{◌≡◌, ◌∙◌, List, ℕ, Option, Some, None, Bor, ap, refl}
use Rattle.std.specs.Option.{option_map}
use Rattle.call_laws.specs.Prelude.{check_work}
use Rattle.ghost_cli.proofs.check.CheckRequest.words.Goals as goal

now-first : (value : Option (Bor (List ℕ)))
    → option_map (λ (t : Bor (List ℕ)). check_work t.now) value
    ≡ option_map check_work (option_map (λ (t : Bor (List ℕ)). t.now) value)
now-first None = refl
now-first (Some t) = refl

pub returns-clause-asked : goal.returns-clause-asked
returns-clause-asked c = now-first c.value.result ∙ ap (option_map check_work) c.value.ensures
