-- How far a step of the code has come: with the work of a verb, and with the calls of the shelf. (Only contracts of
-- private functions and proofs say so.)
use Rattle.std.specs.Prelude.{◌≡◌, ℕ, ℤ, List, Option, Some}
use Rattle.lt_isa.specs.Object.{Parts}
use Rattle.gr_outside.specs.Shelf.{Log}
use Rattle.gr_outside.specs.Sink.{SinkSeen}
use Rattle.call_replies.specs.Texts.{Said}
use Rattle.call_steps.specs.CallsFollow.{Follows, HasCalls}
use Rattle.call_steps.specs.Outside.{Explains, Stage, outside_at}
use Rattle.call_steps.specs.Progress.{HasLeft, Stops}
use Rattle.call_steps.specs.Steps.{with_accepted, with_inputs}
use Rattle.call_steps.specs.Work.{Ending, Work}

-- the shelf is unchanged, this is the rest of the work, and the calls so far and those of the rest follow the work
pub record HasReached (before after : Stage) (work rest : Work) : Type 0 where
  pub leads : HasLeft before.seen work rest
  pub calm : after.seen ≡ before.seen
  pub calls : (ending : Option Ending) (last : Log) → Follows rest ending after.log last
      → Follows work ending before.log last

-- the work ends so without a write, or memory ran out; the calls follow the work
pub record HasStopped (before after : Stage) (work : Work) (said : Said) : Type 0 where
  pub stops : Stops before after work said
  pub calls : HasCalls work before.log after.log

-- what was found: the rest of any work on it is reached
abbrev pub Finds : {X : Type 0} → Stage → Stage → ((X → Work) → Work) → X → Type 0
Finds {X} before after work_on found = (next : X → Work) → HasReached before after (work_on next) (next found)

-- nothing was found, and any work on it ended so
abbrev pub FindsNone : {X : Type 0} → Stage → Stage → ((X → Work) → Work) → Said → Type 0
FindsNone {X} before after work_on said = (next : X → Work) → HasStopped before after (work_on next) said

-- with an object, if it is accepted, and the inputs that another file gives for it
abbrev pub with_given : List ℕ → List ℕ → (Parts → List (List ℤ) → Work) → Work
with_given object input next = with_accepted object (λ o. with_inputs o input (next o))

-- the printed text explains each call whose work has this rest
abbrev pub ExplainsRest : SinkSeen → SinkSeen → ℕ → Work → Type 0
ExplainsRest before after status rest = (shelf now : Stage) (work : Work) → HasReached shelf now work rest
    → Explains (outside_at shelf before) (outside_at now after) status (Some work)
