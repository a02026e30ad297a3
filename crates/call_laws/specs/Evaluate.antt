-- The verb `eval SRC INPUT OUT [--turns n] [--procs]`.
use Rattle.std.specs.Prelude.{ℕ, ℤ, Bool, List, Option, Some, None}
use Rattle.run_data.specs.OutputText.{output_of}
use Rattle.src_tree.specs.Trees.{Source}
use Rattle.flow_types.specs.Wants.{declared_wants}
use Rattle.call_replies.specs.declared.replies.Verdict.TheVariants.{Spent}
use Rattle.call_replies.specs.declared.replies.Done.TheVariants.{Evaluated}
use Rattle.call_steps.specs.Questions.{WhatIsLeft}
use Rattle.call_steps.specs.Showing.{nothing_seen}
use Rattle.call_steps.specs.Work.{Work, Ends, Writes, Asks}
use Rattle.call_steps.specs.Steps.{with_source, with_variables}

-- the values that a program leaves are written, if its loops took at most this many iterations
abbrev pub on_left : Source → List ℕ → ℕ → Option (List (List ℤ)) → Work
on_left p output turns (Some left) = Writes output (output_of (declared_wants p.decls) left) Evaluated
on_left p output turns None = Ends nothing_seen (Spent turns)

abbrev pub evaluates_on : List ℕ → ℕ → Source → List (List ℤ) → Work
evaluates_on output turns p inputs = Asks (WhatIsLeft p inputs turns) (on_left p output turns)

abbrev pub evaluate_work : List ℕ → List ℕ → List ℕ → ℕ → Bool → Work
evaluate_work source input output turns procs =
    with_source procs source (λ p. with_variables (declared_wants p.decls) input (evaluates_on output turns p))
