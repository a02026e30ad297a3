-- The verb `run OBJ INPUT OUT [--cycles n] [--seed s] [--recursive]`.
use Rattle.std.specs.Prelude.{ℕ, ℤ, List, Option, Some, None}
use Rattle.lt_isa.specs.Object.{Parts}
use Rattle.call_replies.specs.declared.replies.Verdict.TheVariants.{Spent}
use Rattle.call_replies.specs.declared.replies.Done.TheVariants.{Halted}
use Rattle.call_steps.specs.Questions.{WhenItHalts}
use Rattle.call_steps.specs.Runs.{run_outputs}
use Rattle.call_steps.specs.Showing.{nothing_seen}
use Rattle.call_steps.specs.Work.{Work, Ends, Writes, Asks}
use Rattle.call_steps.specs.Steps.{with_accepted, with_inputs}

-- the outputs are written where the run halted
abbrev pub on_halt : Parts → List (List ℤ) → List ℕ → ℕ → Option ℕ → Work
on_halt o inputs output cycles (Some at) = Writes output (run_outputs o inputs cycles) (Halted at)
on_halt o inputs output cycles None = Ends nothing_seen (Spent cycles)

abbrev pub runs_on : List ℕ → ℕ → Parts → List (List ℤ) → Work
runs_on output cycles o inputs = Asks (WhenItHalts o inputs cycles) (on_halt o inputs output cycles)

abbrev pub run_work : List ℕ → List ℕ → List ℕ → ℕ → Work
run_work object input output cycles = with_accepted object (λ o. with_inputs o input (runs_on output cycles o))
