-- The verb `check OBJ`.
use Rattle.std.specs.Prelude.{ℕ, List}
use Rattle.call_replies.specs.declared.replies.Verdict.TheVariants.{Accepted}
use Rattle.call_steps.specs.Showing.{nothing_seen}
use Rattle.call_steps.specs.Work.{Work, Ends}
use Rattle.call_steps.specs.Steps.{with_accepted}

abbrev pub check_work : List ℕ → Work
check_work object = with_accepted object (λ o. Ends nothing_seen Accepted)
