-- How far an evaluation comes after its program: the inputs for the program's variables.
use Rattle.std.proofs.Common.{◌≡◌, ℕ, ℤ, List, subst}
use Rattle.gr_word.specs.declared.variables.Want.{Want}
use Rattle.call_replies.specs.Prelude.{Said}
use Rattle.call_steps.specs.Prelude.{Finds, FindsNone, HasReached, HasStopped, Stage, with_variables, Work}
use Rattle.call_steps.proofs.Reaching.{then-reached, then-stopped}

module _ {before between after : Stage} {work : Work} {wants declared : List Want} (input : List ℕ)
    (next : List (List ℤ) → Work) (first : HasReached before between work (with_variables declared input next))
    (is : wants ≡ declared) where
  -- they were found
  pub inputs-reached : (inputs : List (List ℤ)) → Finds between after (with_variables wants input) inputs
      → HasReached before after work (next inputs)
  inputs-reached inputs found =
      then-reached first
      (subst (λ (ws : List Want). HasReached between after (with_variables ws input next) (next inputs)) is
      (found next))

  -- they weren't found
  pub inputs-stopped : {what : Said} → FindsNone between after (with_variables wants input) what
      → HasStopped before after work what
  inputs-stopped {what} none =
      then-stopped first
      (subst (λ (ws : List Want). HasStopped between after (with_variables ws input next) what) is (none next))
